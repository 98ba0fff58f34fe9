-- What is wrong with the leaps and the start that a timeline is to have.
-- Source: the order is this project's profile (docs/FAULTS.md, 11 to 14).
use Rattle.std.specs.Prelude.{◌≡◌, ℕ, nat_lt, is_some, if◌then◌else◌, List, [], ◌∷◌, ◌++◌, Option, Some, None}
use Rattle.std.specs.Option.{option_or}
use Rattle.irig_time.specs.declared.second.UtcSecond.{UtcSecond}
use Rattle.irig_time.specs.declared.leap.Leap.{Leap}
use Rattle.irig_time.specs.declared.timeline.TimelineFault.{TimelineFault}
use Rattle.irig_time.specs.declared.timeline.TimelineFault.TheVariants.{OutOfYears, LeapNotMonthEnd, LeapTwice, BadStart}
use Rattle.irig_time.specs.declared.second.TheConstants.{FIRST_DAY, LAST_DAY}
use Rattle.irig_time.specs.Days.{is_month_end}
use Rattle.irig_time.specs.Timelines.{TimelineValue, leap_of, day_length}

-- what is wrong with a leap's day, after these leaps
abbrev pub leap_fault : List (ℕ × Leap) → ℕ → Option TimelineFault
leap_fault before day =
    if nat_lt day FIRST_DAY then Some OutOfYears
    else (if nat_lt LAST_DAY day then Some OutOfYears
    else (if is_month_end day then (if is_some (leap_of before day) then Some LeapTwice else None)
    else Some LeapNotMonthEnd))

-- the first fault of the leaps, in the list's order, after these leaps
abbrev pub first_leap_fault : List (ℕ × Leap) → List (ℕ × Leap) → Option TimelineFault
first_leap_fault before [] = None
first_leap_fault before (x ∷ xs) =
    option_or (leap_fault before x.0) (first_leap_fault (before ++ x ∷ []) xs)

-- what is wrong with the start
abbrev pub start_fault : List (ℕ × Leap) → UtcSecond → Option TimelineFault
start_fault leaps u =
    if nat_lt u.day FIRST_DAY then Some BadStart
    else (if nat_lt LAST_DAY u.day then Some BadStart
    else (if nat_lt u.sod (day_length leaps u.day) then None else Some BadStart))

-- the first fault of a timeline: of its leaps, then of its start
abbrev pub timeline_fault : UtcSecond → List (ℕ × Leap) → Option TimelineFault
timeline_fault start leaps = option_or (first_leap_fault [] leaps) (start_fault leaps start)

-- nothing is wrong with it
pub record IsTimeline (t : TimelineValue) : Type 0 where
  pub sound : timeline_fault t.start t.leaps ≡ None
