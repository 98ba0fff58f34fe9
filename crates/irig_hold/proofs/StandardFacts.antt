-- Known steps of a hold, so that a wrong definition does not check.
use Rattle.std.proofs.Common.{◌≡◌, ℕ, List, [], ◌∷◌, Option, Some, None, refl, arith}
use Rattle.std.specs.Prelude.{Ok, Err}
use Rattle.irig_time.proofs.NextLaws.{last_day}
use Rattle.irig_time.proofs.StandardFacts.{known_month_end as december}
use Rattle.irig_time.specs.declared.second.UtcSecond.{UtcSecond}
use Rattle.irig_time.specs.declared.mark.Mark.{Mark}
use Rattle.irig_time.specs.declared.mark.Mark.TheVariants.{Unspoken, NoLeap, Insert, Delete}
use Rattle.irig_time.specs.declared.leap.Leap.{Leap}
use Rattle.irig_time.specs.declared.leap.Leap.TheVariants as leap
use Rattle.irig_time.specs.declared.claim.Claim.{Claim}
use Rattle.irig_time.specs.Timelines.{times}
use Rattle.irig_time.specs.Tables.{TableValue, table}
use Rattle.irig_hold.specs.declared.hold.Turn.{Turn}
use Rattle.irig_hold.specs.declared.hold.Turn.TheVariants.{LeapGuard, Expired, RangeEnd, Jump}
use Rattle.irig_hold.specs.Steps.{HoldValue, hold_value, hold_start, Outcome, outcome_of, voted_by, alone_by}
use Rattle.irig_hold.specs.Truth.{IsTrueTable}

abbrev at : ℕ → ℕ → UtcSecond
at day sod = record { day = day; sod = sod }

abbrev claim : ℕ → ℕ → Mark → Claim
claim day sod mark = record { at = at day sod; mark = mark }

-- a step to this hold
abbrev goes : HoldValue → Outcome
goes new = outcome_of new (Ok new)

-- no step from this hold
abbrev stays : HoldValue → Turn → Outcome
stays h stop = outcome_of h (Err stop)

abbrev nothing : TableValue
nothing = table 0 []

-- ---- at the end of 2016

-- a second is inserted, and then what was heard is forgotten
pub known_insertion : (alone_by nothing (hold_value (at 6209 86398) 0 Insert) 9 ≡ goes (hold_value (at 6209 86399) 1 Insert))
    × (alone_by nothing (hold_value (at 6209 86399) 1 Insert) 9 ≡ goes (hold_value (at 6209 86400) 2 Insert))
    × (alone_by nothing (hold_value (at 6209 86400) 2 Insert) 9 ≡ goes (hold_value (at 6210 0) 3 Unspoken))
known_insertion = (rw december refl, rw december refl, rw december refl)

-- a second is deleted, also if a hold begins
pub known_deletion : (alone_by nothing (hold_value (at 6209 86398) 0 Delete) 9 ≡ goes (hold_value (at 6210 0) 1 Unspoken))
    × (hold_start nothing (claim 6209 86398 Delete) ≡ Ok (hold_value (at 6210 0) 0 Unspoken))
known_deletion = (rw december refl, rw december refl)

-- if nothing was heard, the guard; unless the table speaks, which it does on the day with which
-- it ends
pub known_guard : (alone_by nothing (hold_value (at 6209 86397) 0 Unspoken) 9 ≡ goes (hold_value (at 6209 86398) 1 Unspoken))
    × (alone_by nothing (hold_value (at 6209 86398) 0 Unspoken) 9 ≡ stays (hold_value (at 6209 86398) 0 Unspoken) LeapGuard)
    × (alone_by (table 6208 []) (hold_value (at 6209 86398) 0 Unspoken) 9 ≡ stays (hold_value (at 6209 86398) 0 Unspoken) LeapGuard)
    × (alone_by (table 6209 []) (hold_value (at 6209 86398) 0 Unspoken) 9 ≡ goes (hold_value (at 6209 86399) 1 Unspoken))
    × (alone_by (table 6209 []) (hold_value (at 6209 86399) 1 Unspoken) 9 ≡ goes (hold_value (at 6210 0) 2 Unspoken))
    × (hold_start nothing (claim 6209 86398 Unspoken) ≡ Err LeapGuard)
known_guard = (rw december refl, rw december refl, rw december refl, rw december refl, rw december refl, rw december refl)

-- a hold does not take the table's mark for its own, and what it heard goes before the table
pub known_table : (alone_by (table 6209 ((6209, leap.Insert) ∷ [])) (hold_value (at 6209 86399) 0 Unspoken) 9 ≡ goes (hold_value (at 6209 86400) 1 Unspoken))
    × (alone_by (table 6209 ((6209, leap.Insert) ∷ [])) (hold_value (at 6209 86399) 0 NoLeap) 9 ≡ goes (hold_value (at 6210 0) 1 Unspoken))
known_table = (rw december refl, rw december refl)

-- a vote that says nothing leaves what was heard, one that says something is heard, and one for
-- another second is a jump
pub known_votes : (voted_by nothing (hold_value (at 6209 86397) 5 Insert) (claim 6209 86397 Unspoken) ≡ goes (hold_value (at 6209 86398) 0 Insert))
    × (voted_by nothing (hold_value (at 6209 86397) 5 Insert) (claim 6209 86397 NoLeap) ≡ goes (hold_value (at 6209 86398) 0 NoLeap))
    × (voted_by nothing (hold_value (at 6209 86398) 5 Insert) (claim 6209 86397 Insert) ≡ stays (hold_value (at 6209 86398) 5 Insert) Jump)
    × (voted_by nothing (hold_value (at 6209 86398) 5 Unspoken) (claim 6209 86398 Unspoken) ≡ stays (hold_value (at 6209 86398) 5 Unspoken) LeapGuard)
known_votes = (rw december refl, rw december refl, refl, rw december refl)

-- ---- the limit and the end

-- the limit goes before the guard and the end of the range
pub known_limit : (alone_by nothing (hold_value (at 6209 86398) 4 Unspoken) 4 ≡ stays (hold_value (at 6209 86398) 4 Unspoken) Expired)
    × (alone_by nothing (hold_value (at 6209 86398) 4 Unspoken) 5 ≡ stays (hold_value (at 6209 86398) 4 Unspoken) LeapGuard)
    × (alone_by nothing (hold_value (at 36523 86399) 4 Unspoken) 4 ≡ stays (hold_value (at 36523 86399) 4 Unspoken) Expired)
known_limit = (refl, rw december refl, refl)

-- no second follows the last one of 2099-12-30
pub known_end : (alone_by nothing (hold_value (at 36523 86398) 0 Unspoken) 9 ≡ goes (hold_value (at 36523 86399) 1 Unspoken))
    × (alone_by nothing (hold_value (at 36523 86399) 1 Unspoken) 9 ≡ stays (hold_value (at 36523 86399) 1 Unspoken) RangeEnd)
    × (hold_start nothing (claim 36523 86399 Unspoken) ≡ Err RangeEnd)
known_end = (rw last_day refl, rw last_day refl, rw last_day refl)

-- ---- true tables

abbrev leaps : List (ℕ × Leap)
leaps = (6209, leap.Insert) ∷ []

abbrev some : Leap → Option Leap
some l = Some l

-- true: the leap there is, or an end before it; not true: no leap if there is one, or one if
-- there is none
pub known_tables : IsTrueTable (times (at 6000 0) leaps) (table 6240 leaps) × IsTrueTable (times (at 6209 0) leaps) (table 6208 [])
    × ¬ IsTrueTable (times (at 6209 86400) leaps) (table 6209 []) × ¬ IsTrueTable (times (at 6209 0) []) (table 6209 leaps)
known_tables = (
  record { leaps = λ day end from to. refl },
  record { leaps = λ day end from to. absurd (omega arith) },
  λ h. let same : None ≡ some leap.Insert = h.leaps 6209 december (omega arith) (omega arith) in cc,
  λ h. let same : some leap.Insert ≡ None = h.leaps 6209 december (omega arith) (omega arith) in cc,
)
