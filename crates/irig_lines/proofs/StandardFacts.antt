-- The definitions at known values.
use Rattle.std.proofs.Common.{◌≡◌, ℕ, ◌-◌, ◌*◌, true, false, List, [], ◌∷◌, Option, Some, None, refl}
use Rattle.irig_time.specs.declared.mark.Mark.TheVariants.{Unspoken}
use Rattle.irig_time.specs.declared.claim.Claim.{Claim}
use Rattle.irig_reader.specs.declared.rules.ReaderRules.{ReaderRules}
use Rattle.irig_lines.specs.declared.lines.KeptClaim.{KeptClaim}
use Rattle.irig_lines.specs.declared.lines.Vote.{Vote}
use Rattle.irig_lines.specs.declared.interval.Interval.{Interval}
use Rattle.irig_lines.specs.declared.rate.Anchor.{Anchor}
use Rattle.irig_lines.specs.declared.rate.Rate.{Rate}
use Rattle.irig_lines.specs.Rates.{mean_since}
use Rattle.irig_lines.specs.Intervals.{by_vote, carried, cut, contradicts}
use Rattle.irig_lines.specs.Exactness.{most_vote_us}
use Rattle.irig_lines.specs.Widths.{quality_us}
use Rattle.irig_lines.specs.Counting.{edges_to, edges_to_vote, edges_own, is_late, has_come}
use Rattle.irig_lines.specs.declared.pace.Pace.{Pace}
use Rattle.irig_lines.specs.Paces.{edge_on, is_spent}
use Rattle.irig_lines.specs.Refusals.{clock_fault}
use Rattle.irig_lines.specs.declared.setup.ClockFault.TheVariants.{Drift, Holdover}
use Rattle.irig_lines.specs.Steps.{first_candidate, vote_with, until, wait_by}

-- by the own counter a second is counted 6 ms after it should have come, over the wrap too; an edge
-- that lies ahead is none
pub known_own : (edges_own None (Some 4294000000) 38703 ≡ 0) × (edges_own None (Some 4294000000) 38704 ≡ 1) × (edges_own None (Some 5) 4 ≡ 0) × (edges_own None None 38704 ≡ 0) × (edge_on None 4294000000 1 ≡ 32704)
known_own = (refl, refl, refl, refl, refl)

-- to an edge that lines agree on they are counted to the nearest
pub known_to : (edges_to 4294000000 4294499999 ≡ 0) × (edges_to 4294000000 4294500000 ≡ 1) × (edges_to 4294000000 532703 ≡ 1) × (edges_to 4294000000 532704 ≡ 2) × (edges_to_vote None 7 ≡ 1)
known_to = (refl, refl, refl, refl, refl)

-- an edge that lines agree on has come for 103 ms; a frame is kept from 14 ms before its end on, until
-- 100 ms behind it
pub known_come : (has_come 4294967000 102704 ≡ true) × (has_come 4294967000 102705 ≡ false) × (has_come 10 9 ≡ false) × (has_come 10 10 ≡ true)
known_come = (refl, refl, refl, refl)

pub known_late : (is_late 4294967000 99704 ≡ false) × (is_late 4294967000 99705 ≡ true) × (is_late 24000 10000 ≡ false) × (is_late 24001 10000 ≡ true)
known_late = (refl, refl, refl, refl)

-- at 100 us a second 4,898 seconds of holdover are the most
abbrev rules_of : ℕ → ReaderRules
rules_of holdover = record { lock_after = 3; holdover = holdover }

pub known_refused : (clock_fault (rules_of 1000000) 1 0 ≡ Some Holdover) × (clock_fault (rules_of 4898) 100 0 ≡ None) × (clock_fault (rules_of 4899) 100 0 ≡ Some Holdover) × (clock_fault (rules_of 1000000) 101 0 ≡ Some Drift) × (clock_fault (rules_of 1000000) 0 0 ≡ None)
known_refused = (refl, refl, refl, refl, refl)

-- of a device that learns any, by a counter that runs no more than 100 us a second wrong
pub known_learning : (clock_fault (rules_of 1000000) 100 1 ≡ None) × (clock_fault (rules_of 1000000) 101 1 ≡ Some Drift)
known_learning = (refl, refl)

-- by 50 us a second an edge may be held for 9,800 s, or by 1,450 ns for 337,896 s, and one more costs the
-- drift
abbrev learned_pace : Option Pace
learned_pace = Some (record { second_ns = 1000000000; within_ns = 1450; rest_ns = 0 })

pub known_spent : (is_spent 50 None 9799 1 ≡ false) × (is_spent 50 None 9800 1 ≡ true) × (is_spent 50 learned_pace 337895 1 ≡ false) × (is_spent 50 learned_pace 337896 1 ≡ true)
known_spent = (refl, refl, refl, refl)

-- frames of one claim and of another
abbrev claim_of : ℕ → Claim
claim_of sod = record { at = record { day = 6209; sod = sod }; mark = Unspoken }

abbrev frame_of : (sod half end : ℕ) → Option KeptClaim
frame_of sod half end = Some (record { claim = claim_of sod; end_us = end; half_us = half })

abbrev three : (within a b c : ℕ) → List (Option KeptClaim)
three within a b c =
    frame_of 7 (within - 1) a ∷ frame_of 7 (within - 1) b ∷ frame_of 7 (within - 1) c ∷ None ∷ None ∷ []

abbrev two : (within a b : ℕ) → List (Option KeptClaim)
two within a b =
    frame_of 7 (within - 1) a ∷ frame_of 7 (within - 1) b ∷ frame_of 8 (within - 1) b ∷ None ∷ None ∷ []

abbrev vote_in : (within d f : ℕ) → List (Option KeptClaim) → Option Vote
vote_in within d f all = vote_with (2 * (within - 1)) d f all (first_candidate (2 * (within - 1)) f all all None)

abbrev edge_of : (edge bound : ℕ) → Option Vote
edge_of edge bound = Some (record { claim = claim_of 7; edge_us = edge; bound_us = bound })

-- two lines at the limits of 450 us leave an edge between them, 899 us off at most; three the second
-- of them, 450 us off at most; further apart none, nor of two claims, nor by three lines
pub known_agreed : (vote_in 450 100 1 (two 450 4294967000 602) ≡ edge_of 153 899) × (vote_in 450 100 1 (two 450 4294967000 603) ≡ None) × (vote_in 450 100 1 (three 450 4294967000 4294967200 602) ≡ edge_of 4294967200 450)
    × (vote_in 450 0 1 (three 450 4294967000 602 1502) ≡ edge_of 602 449) × (vote_in 450 100 2 (two 450 4294967000 602) ≡ None)
known_agreed = (refl, refl, refl, refl, refl)

-- at 10 us by a counter of 1 ppm they leave 19 us and 10 us, and the middle is rounded to what comes
-- first
pub known_exact : (vote_in 10 1 1 (two 10 4294967290 12) ≡ edge_of 3 19) × (vote_in 10 1 1 (two 10 4294967290 13) ≡ None) × (vote_in 10 1 1 (three 10 4294967290 4294967295 12) ≡ edge_of 4294967295 10) × (vote_in 10 1 1 (two 10 7 8) ≡ edge_of 7 11)
known_exact = (refl, refl, refl, refl)

-- frames whose edges lie 9 us and 1,009 us off agree: two that are good and lie 6 us apart tell the edge
-- alone, wherever the other one lies; with one good one the other two do
abbrev wide : (a b c half : ℕ) → List (Option KeptClaim)
wide a b c half = frame_of 7 9 a ∷ frame_of 7 half b ∷ frame_of 7 1009 c ∷ None ∷ None ∷ []

pub known_halves : (vote_in 1010 1 1 (wide 5000 5006 5800 9) ≡ edge_of 5003 13) × (vote_in 1010 1 1 (wide 5000 5006 4200 9) ≡ edge_of 5003 13) × (vote_in 1010 1 1 (wide 5000 5700 5800 1009) ≡ edge_of 5750 960)
known_halves = (refl, refl, refl)

-- a vote 450 us exact; a second later, by a counter that runs 100 us a second wrong, its edge lies 550 us
-- off at most, so that one that is told 1,000 us late is cut, and one 1,001 us late contradicts; over the
-- wrap too
abbrev interval_of : (begin long : ℕ) → Interval
interval_of begin long = record { begin_us = begin; long_us = long }

abbrev voted_at : ℕ → Interval
voted_at edge = by_vote (record { claim = claim_of 7; edge_us = edge; bound_us = 450 })

pub known_intervals : (voted_at 4294967200 ≡ interval_of 4294966750 900) × (carried 100 1 (voted_at 4294967200) ≡ Some (interval_of 999354 1100)) × (cut (carried 100 1 (voted_at 4294967200)) (voted_at 1000904) ≡ interval_of 1000454 0)
    × (contradicts (carried 100 1 (voted_at 4294967200)) (voted_at 1000904) ≡ false) × (contradicts (carried 100 1 (voted_at 4294967200)) (voted_at 1000905) ≡ true) × (cut (carried 100 1 (voted_at 4294967200)) (voted_at 1000905) ≡ voted_at 1000905)
    × (contradicts (carried 100 1 (voted_at 4294967200)) (voted_at 998904) ≡ false) × (contradicts (carried 100 1 (voted_at 4294967200)) (voted_at 998903) ≡ true) × (carried 100 4895 (voted_at 7) ≡ Some (interval_of 599542761 979900)) × (carried 100 4896 (voted_at 7) ≡ None)
known_intervals = (refl, refl, refl, refl, refl, refl, refl, refl, refl, refl)

-- by a counter that is 37 ppm fast, between two edges that are known to 449 us and lie 1,000 s apart, over
-- the wrap, a second is 1,000,037,000 ns long, to 898 ns; and what does not divide is rounded outwards
abbrev anchor_of : (begin long seconds : ℕ) → Anchor
anchor_of begin long seconds = record { begin_us = begin; long_us = long; seconds = seconds }

abbrev measured : (seconds least most : ℕ) → Rate
measured seconds least most = record { seconds = seconds; least_ns = least; most_ns = most }

pub known_rate : (mean_since (anchor_of 4294966396 898 1000) (interval_of 1000036100 898) ≡ measured 1000 1000036102 1000037898) × (mean_since (anchor_of 0 0 3) (interval_of 3000001 0) ≡ measured 3 1000000333 1000000334)
known_rate = (refl, refl)

-- how far off clocks say that they may be
pub known_qualities : (quality_us 0 ≡ 0) × (quality_us 1 ≡ 1) × (quality_us 4 ≡ 1) × (quality_us 5 ≡ 10) × (quality_us 6 ≡ 100) × (quality_us 7 ≡ 1000) × (most_vote_us ≡ 2899)
known_qualities = (refl, refl, refl, refl, refl, refl, refl)

-- to wait
pub known_wait : (until 4294967000 704 ≡ 1000) × (until 704 4294967000 ≡ 0) × (wait_by 4294000000 (Some 4294000000) None ≡ 1006000) × (wait_by 38704 (Some 4294000000) None ≡ 0) × (wait_by 5 None None ≡ 1000000)
known_wait = (refl, refl, refl, refl, refl)
