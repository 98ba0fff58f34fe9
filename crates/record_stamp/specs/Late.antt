-- By how much one moment is later than another.
-- Source: ITU-R TF.460: a day that ends with a leap second is one second longer or shorter, by the definitions of
-- irig_time's Timelines.antt.
use Rattle.std.specs.Prelude.{ℕ, ◌+◌, ◌*◌, ◌<◌, List, [], ◌∷◌, Option, Some, None, ℤ, pos, ◌-ℤ◌}
use Rattle.irig_time.specs.declared.second.UtcSecond.{UtcSecond}
use Rattle.irig_time.specs.declared.leap.Leap.{Leap}
use Rattle.irig_time.specs.Seconds.{IsValid}
use Rattle.irig_time.specs.Timelines.{seconds_in}
use Rattle.record_stamp.specs.declared.late.Moment.{Moment}

-- a valid second, and less than a second more
pub record IsMoment (moment : Moment) : Type 0 where
  pub at : IsValid moment.at
  pub fraction : moment.nanoseconds < 1000000000

-- a leap and its day, if one is known, as a list
abbrev pub leaps_of : Option (ℕ × Leap) → List (ℕ × Leap)
leaps_of None = []
leaps_of (Some leap) = leap ∷ []

-- how many seconds a second begins after 2000-01-01T00:00:00Z: the lengths of the days before its own, and its place in
-- that
abbrev pub seconds_to : List (ℕ × Leap) → UtcSecond → ℕ
seconds_to leaps second = seconds_in leaps 0 second.day + second.sod

-- the same of a moment, in nanoseconds
abbrev pub nanoseconds_to : List (ℕ × Leap) → Moment → ℕ
nanoseconds_to leaps moment = 1000000000 * seconds_to leaps moment.at + moment.nanoseconds

-- how many nanoseconds pass from the truth to a told moment, below 0 if that is earlier
abbrev pub late_ns : List (ℕ × Leap) → (told truth : Moment) → ℤ
late_ns leaps told truth = pos (nanoseconds_to leaps told) -ℤ pos (nanoseconds_to leaps truth)
