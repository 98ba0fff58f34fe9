-- The index of a timeline: its days in stretches, each of which ends with the day of a leap. No
-- public clause speaks of it.
use Rattle.std.specs.Prelude.{◌≡◌, ℕ, ◌+◌, ◌-◌, ◌<◌, ◌≤◌, ◌⊎◌, Bool, true, nat_lt, All, List, Option, Some, None, length, slice_index_or}
use Rattle.std.specs.List.{AllAdjacentBelow}
use Rattle.std.specs.List.Sorted.{IsNonDecreasingBy}
use Rattle.irig_time.specs.declared.leap.Leap.{Leap}
use Rattle.irig_time.specs.declared.stretches.Stretch.{Stretch}
use Rattle.irig_time.specs.declared.second.TheConstants.{LAST_DAY}
use Rattle.irig_time.specs.Timelines.{TimelineValue, leap_of, seconds_in}
use Rattle.irig_time.specs.TimelineFaults.{IsTimeline}

-- no day from this one on has a leap
abbrev pub HasNoLeapFrom : List (ℕ × Leap) → ℕ → Type 0
HasNoLeapFrom leaps from = (day : ℕ) → from ≤ day → leap_of leaps day ≡ None

-- this is the first leap from a day on
pub record IsNextLeap (leaps : List (ℕ × Leap)) (from : ℕ) (leap : ℕ × Leap) : Type 0 where
  pub from_on : from ≤ leap.0
  pub served : leap.0 ≤ LAST_DAY
  pub there : leap_of leaps leap.0 ≡ Some leap.1
  pub none_before : (day : ℕ) → from ≤ day → day < leap.0 → leap_of leaps day ≡ None

-- the day comes before this leap, if there is one
abbrev pub comes_before : ℕ → Option (ℕ × Leap) → Bool
comes_before day None = true
comes_before day (Some leap) = nat_lt day leap.0

-- the seconds of a stretch are counted from the beginning of the first day
pub record IsPlaced (leaps : List (ℕ × Leap)) (first : ℕ) (s : Stretch) : Type 0 where
  pub from_on : first ≤ s.day
  pub served : s.day ≤ LAST_DAY + 1
  pub seconds : s.seconds ≡ seconds_in leaps first (s.day - first)

-- none but the last day of the one stretch has a leap, and the other follows and names it
pub record Joins (leaps : List (ℕ × Leap)) (one other : Stretch) : Type 0 where
  pub later : one.day < other.day
  pub plain : (day : ℕ) → one.day ≤ day → day + 1 < other.day → leap_of leaps day ≡ None
  pub leap : leap_of leaps (other.day - 1) ≡ other.leap

-- the stretches from the first day on, the last of which no leap ends
pub record IsIndex (leaps : List (ℕ × Leap)) (first : ℕ) (stretches : List Stretch) : Type 0 where
  pub some : 0 < length stretches
  pub start : (d : Stretch) → (slice_index_or stretches 0 d).seconds ≡ 0
  pub placed : All (IsPlaced leaps first) stretches
  pub joined : AllAdjacentBelow (Joins leaps) stretches (length stretches)
  pub plain_after : (d : Stretch)
      → HasNoLeapFrom leaps (slice_index_or stretches (length stretches - 1) d).day

-- what the search for a stretch rests on
pub record IsRising (stretches : List Stretch) : Type 0 where
  pub some : 0 < length stretches
  pub start : (d : Stretch) → (slice_index_or stretches 0 d).seconds ≡ 0
  pub rising : IsNonDecreasingBy (λ s. s.seconds) stretches
  pub later : AllAdjacentBelow (λ one other. one.day < other.day) stretches (length stretches)

-- the stretch in which so many seconds have passed since the beginning of the first day, and its
-- last day
pub record Holds (t : TimelineValue) (total : ℕ) (s : Stretch) (last : ℕ) : Type 0 where
  pub placed : IsPlaced t.leaps t.start.day s
  pub within : s.day ≤ last
  pub served : last ≤ LAST_DAY + 1
  pub begun : s.seconds ≤ total
  pub plain : (day : ℕ) → s.day ≤ day → day < last → leap_of t.leaps day ≡ None
  pub before_end : (last ≡ LAST_DAY + 1)
      ⊎ (total < seconds_in t.leaps t.start.day (last + 1 - t.start.day))

-- the index of this sound timeline
pub record IsIndexed (t : TimelineValue) (stretches : List Stretch) : Type 0 where
  pub timeline : IsTimeline t
  pub index : IsIndex t.leaps t.start.day stretches
