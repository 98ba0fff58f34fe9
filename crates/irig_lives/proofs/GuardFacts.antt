-- A device of one line, by a counter that is 100 us a second fast, at the end of 2016. Its line's clock
-- does not know of the leap second that was inserted then: the frames of 23:59:58 and 23:59:59 say that
-- none comes. The device's table has it. It tells 23:59:59, and that the frames speak against its table,
-- and is silent where a device that prefers frames tells the new year for 23:59:60.
use Rattle.std.proofs.Common.{◌≡◌, ℕ, zero, suc, ◌+◌, ◌*◌, List, [], ◌∷◌, Option, Some, None, refl, arith, false, Bool, true}
use Rattle.irig_frame.specs.declared.symbol.Symbol.{Symbol}
use Rattle.irig_frame.specs.declared.symbol.Symbol.TheVariants.{Zero, One, Marker}
use Rattle.irig_frame.specs.Faults.{values_of, field_at}
use Rattle.irig_control.specs.Parity.{ones}
use Rattle.irig_control.specs.Control.{control_of, offset_in}
use Rattle.irig_sync.specs.Edges.{element_at}
use Rattle.irig_time.specs.declared.second.UtcSecond.{UtcSecond}
use Rattle.irig_time.specs.declared.mark.Mark.TheVariants.{NoLeap}
use Rattle.irig_time.specs.declared.leap.Leap.{Leap}
use Rattle.irig_time.specs.declared.leap.Leap.TheVariants as leap
use Rattle.irig_time.specs.declared.claim.Claim.{Claim}
use Rattle.irig_time.specs.Claims.{utc_minute}
use Rattle.irig_time.specs.Days.{is_month_end, four_years}
use Rattle.irig_time.specs.Timelines.{TimelineValue, times, IsSecond}
use Rattle.irig_time.specs.TimelineFaults.{IsTimeline}
use Rattle.irig_time.specs.Tables.{TableValue, table}
use Rattle.irig_port.specs.declared.told.Told.TheVariants as tells
use Rattle.irig_port.specs.Told.{told_of, frame_told, coded_told}
use Rattle.irig_vote.specs.declared.redundancy.Redundancy.TheVariants as of
use Rattle.irig_reader.specs.declared.report.Lock.{Lock}
use Rattle.irig_reader.specs.declared.report.Lock.TheVariants as lock
use Rattle.irig_reader.specs.declared.report.Cause.{Cause}
use Rattle.irig_reader.specs.declared.report.Cause.TheVariants as cause
use Rattle.irig_reader.specs.Rule.{step_of}
use Rattle.irig_timekeeper.specs.declared.clock.Beat.{Beat}
use Rattle.irig_lines.specs.Refusals.{within_of}
use Rattle.irig_lines.specs.Lines.{line_of}
use Rattle.irig_timekeeper.specs.Keeping.{Keeping, new_keeping, vote_at, answer_at}
use Rattle.irig_timekeeper.specs.Truth.{KnowsEnd}
use Rattle.irig_timekeeper.specs.Life.{Call, after_calls}
use Rattle.irig_timekeeper.specs.Life.Call.{Hear, Tick}
use Rattle.irig_lives.proofs.LifeFacts.{rules, no_delays, new_lines, silence, width_of, usual}
use Rattle.irig_timekeeper.specs.Rule.{step_checked, goes_against}
use Rattle.irig_port.specs.declared.told.Told.{Told}
use Rattle.irig_timekeeper.proofs.GuardedTicks.{tick_guards_vote}

-- ---- the world

-- of 2016-12-31, and the first second of 2017
abbrev at : ℕ → UtcSecond
at sod = record { day = 6209; sod = sod }

abbrev new_year : UtcSecond
new_year = record { day = 6210; sod = 0 }

abbrev edges : ℕ → ℕ
edges n = 1000000 + 1000100 * n

-- 23:59:60 is inserted, or nothing is
abbrev inserted : List (ℕ × Leap)
inserted = (6209, leap.Insert) ∷ []

abbrev with_leaps : List (ℕ × Leap) → TimelineValue
with_leaps leaps = times (at 86398) leaps

abbrev knows : List (ℕ × Leap) → TableValue
knows leaps = table 6209 leaps

sound : IsTimeline (with_leaps inserted) × IsTimeline (with_leaps [])
unfolding is_month_end four_years
sound = (record { sound = refl }, record { sound = refl })

knows_end : (leaps : List (ℕ × Leap)) → KnowsEnd (with_leaps leaps) (knows leaps) 6209
knows_end leaps end = rw end refl

-- ---- the frames of 23:59:58 and 23:59:59, of a clock that knows of no leap

abbrev frame_58 : List Symbol
frame_58 = Marker ∷ Zero ∷ Zero ∷ Zero ∷ One ∷ Zero ∷ One ∷ Zero ∷ One ∷ Marker ∷ One ∷ Zero ∷ Zero ∷ One ∷ Zero ∷ One ∷ Zero ∷ One ∷ Zero ∷ Marker ∷ One ∷ One ∷ Zero ∷ Zero ∷ Zero ∷ Zero ∷ One ∷ Zero ∷ Zero ∷ Marker ∷ Zero ∷ One ∷ One ∷ Zero ∷ Zero ∷ Zero ∷ One ∷ One ∷ Zero ∷ Marker ∷ One ∷ One ∷ Zero ∷ Zero ∷ Zero ∷ Zero ∷ Zero ∷ Zero ∷ Zero ∷ Marker ∷ Zero ∷ One ∷ One ∷ Zero ∷ Zero ∷ One ∷ Zero ∷ Zero ∷ Zero ∷ Marker ∷ Zero ∷ Zero ∷ Zero ∷ Zero ∷ Zero ∷ Zero ∷ Zero ∷ Zero ∷ Zero ∷ Marker ∷ Zero ∷ Zero ∷ Zero ∷ Zero ∷ Zero ∷ One ∷ Zero ∷ Zero ∷ Zero ∷ Marker ∷ Zero ∷ One ∷ One ∷ One ∷ One ∷ One ∷ One ∷ Zero ∷ One ∷ Marker ∷ Zero ∷ Zero ∷ Zero ∷ One ∷ Zero ∷ One ∷ Zero ∷ One ∷ Zero ∷ Marker ∷ []

abbrev frame_59 : List Symbol
frame_59 = Marker ∷ One ∷ Zero ∷ Zero ∷ One ∷ Zero ∷ One ∷ Zero ∷ One ∷ Marker ∷ One ∷ Zero ∷ Zero ∷ One ∷ Zero ∷ One ∷ Zero ∷ One ∷ Zero ∷ Marker ∷ One ∷ One ∷ Zero ∷ Zero ∷ Zero ∷ Zero ∷ One ∷ Zero ∷ Zero ∷ Marker ∷ Zero ∷ One ∷ One ∷ Zero ∷ Zero ∷ Zero ∷ One ∷ One ∷ Zero ∷ Marker ∷ One ∷ One ∷ Zero ∷ Zero ∷ Zero ∷ Zero ∷ Zero ∷ Zero ∷ Zero ∷ Marker ∷ Zero ∷ One ∷ One ∷ Zero ∷ Zero ∷ One ∷ Zero ∷ Zero ∷ Zero ∷ Marker ∷ Zero ∷ Zero ∷ Zero ∷ Zero ∷ Zero ∷ Zero ∷ Zero ∷ Zero ∷ Zero ∷ Marker ∷ Zero ∷ Zero ∷ Zero ∷ Zero ∷ Zero ∷ Zero ∷ Zero ∷ Zero ∷ Zero ∷ Marker ∷ One ∷ One ∷ One ∷ One ∷ One ∷ One ∷ One ∷ Zero ∷ One ∷ Marker ∷ Zero ∷ Zero ∷ Zero ∷ One ∷ Zero ∷ One ∷ Zero ∷ One ∷ Zero ∷ Marker ∷ []

abbrev claim_of : ℕ → Claim
claim_of sod = record { at = at sod; mark = NoLeap }

told_58 : told_of rules frame_58 ≡ tells.Claim (claim_of 86398)
unfolding told_of frame_told coded_told ones values_of field_at control_of offset_in utc_minute is_month_end four_years
told_58 = refl

unfoldable frames : ℕ → List Symbol
frames zero = frame_58
frames (suc n) = frame_59

abbrev line : ℕ → Symbol
line = line_of frames 2

-- ---- the calls: a tick 2 ms behind the end of each frame

heard : ℕ → ℕ → List Call → List Call
heard from zero calls = calls
heard from (suc k) calls = Hear 0 (element_at edges (from + k)) (width_of (line (from + k))) ∷ heard from k calls

unfoldable calls_1 : List Call
calls_1 = heard 0 100 []

abbrev now_1 : ℕ
now_1 = 2002000

unfoldable calls_2 : List Call
calls_2 = heard 100 100 (Tick now_1 ∷ calls_1)

abbrev now_2 : ℕ
now_2 = 3002100

-- ---- what the device says

abbrev device : (prefers_frames : Bool) → List (ℕ × Leap) → Keeping
device prefers_frames leaps = new_keeping rules (record { reader_rules = record { lock_after = 1; holdover = 100 }; redundancy = of.One; within = within_of 450; limits = usual; drift_us = 100; wander_ppb = 0; delays = no_delays; prefers_frames = prefers_frames }) (knows leaps) new_lines

abbrev beat : Option UtcSecond → Lock → Cause → Option Claim → ℕ → Bool → Beat
beat announce l c claim edge against = record { report = record { announce = announce; lock = l; cause = c }; told = record silence { a = told_by claim }; edge_us = edge; bound_us = 450; missed = 0; moved = 0; against_table = against }
  where
    told_by : Option Claim → Told
    told_by None = tells.Silence
    told_by (Some claim) = tells.Claim claim

-- 23:59:59, and that the table says otherwise
first : (prefers_frames : Bool) → answer_at (after_calls (device prefers_frames inserted) calls_1) now_1 ≡ Some (beat (Some (at 86399)) lock.Locked cause.Voted (Some (claim_of 86398)) 2000099 true)
unfolding calls_2 calls_1 heard width_of frames step_checked goes_against step_of told_of frame_told coded_told ones values_of field_at control_of offset_in utc_minute is_month_end four_years
first true = refl
first false = refl

-- then nothing, and with another setup a second too early
guarded : answer_at (after_calls (device false inserted) calls_2) now_2 ≡ Some (beat None lock.Unlocked cause.LeapGuard (Some (claim_of 86399)) 3000199 true)
unfolding calls_2 calls_1 heard width_of frames step_checked goes_against step_of told_of frame_told coded_told ones values_of field_at control_of offset_in utc_minute is_month_end four_years
guarded = refl

misled : answer_at (after_calls (device true inserted) calls_2) now_2 ≡ Some (beat (Some new_year) lock.Locked cause.Voted (Some (claim_of 86399)) 3000199 true)
unfolding calls_2 calls_1 heard width_of frames step_checked goes_against step_of told_of frame_told coded_told ones values_of field_at control_of offset_in utc_minute is_month_end four_years
misled = refl

-- nothing either if the line is dark by then, whose word was kept
dark : answer_at (after_calls (device false inserted) (Tick now_1 ∷ calls_1)) 3007000 ≡ Some (beat None lock.Unlocked cause.LeapGuard None 3000099 false)
unfolding calls_2 calls_1 heard width_of frames step_checked goes_against step_of told_of frame_told coded_told ones values_of field_at control_of offset_in utc_minute is_month_end four_years
dark = refl

-- where no leap came, frames and table agree on the new year
agreed : answer_at (after_calls (device false []) calls_2) now_2 ≡ Some (beat (Some new_year) lock.Locked cause.Voted (Some (claim_of 86399)) 3000199 false)
unfolding calls_2 calls_1 heard width_of frames step_checked goes_against step_of told_of frame_told coded_told ones values_of field_at control_of offset_in utc_minute is_month_end four_years
agreed = refl

-- ---- so the law speaks of it

vote_1 : vote_at (after_calls (device false inserted) calls_1) now_1 ≡ Some (record { claim = claim_of 86398; edge_us = 2000099; bound_us = 450 })
unfolding calls_2 calls_1 heard width_of frames step_checked goes_against step_of told_of frame_told coded_told ones values_of field_at control_of offset_in utc_minute is_month_end four_years
vote_1 = refl

second_0 : IsSecond (with_leaps inserted) 0 (at 86398)
second_0 = record { from = omega arith; to = omega arith; sod = omega arith; sum = refl }

-- by a word that is false 23:59:59 is true
true_59 : IsSecond (with_leaps inserted) 1 (at 86399)
unfolding calls_1 heard width_of frames
true_59 = tick_guards_vote (after_calls (device false inserted) calls_1) now_1 _ (first false) (with_leaps inserted) sound.0 refl 0 (at 86399) refl _ vote_1 second_0 (knows_end inserted)

-- and the new year would not be, where it is not told
false_new_year : ¬ IsSecond (with_leaps inserted) 2 new_year
false_new_year is = omega (arith, is.sum)
