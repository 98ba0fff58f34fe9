-- A timeline: a start, and the days that end with a leap. Its seconds are counted by sums of day
-- lengths.
-- Source: ITU-R TF.460: a day with a leap is one second longer or shorter; marks by this project's
-- profile.
use Rattle.std.specs.Prelude.{◌≡◌, ℕ, zero, suc, ◌+◌, ◌-◌, ◌≤◌, ◌<◌, Bool, true, false, ◌==◌, nat_lt, if◌then◌else◌, List, [], ◌∷◌, Option, Some, None}
use Rattle.std.specs.Option.{option_map}
use Rattle.irig_time.specs.declared.second.UtcSecond.{UtcSecond}
use Rattle.irig_time.specs.declared.mark.Mark.{Mark}
use Rattle.irig_time.specs.declared.mark.Mark.TheVariants as mark
use Rattle.irig_time.specs.declared.claim.Claim.{Claim}
use Rattle.irig_time.specs.declared.leap.Leap.{Leap}
use Rattle.irig_time.specs.declared.leap.Leap.TheVariants.{Insert, Delete}
use Rattle.irig_time.specs.declared.second.TheConstants.{LAST_DAY}
use Rattle.irig_time.specs.Days.{is_month_end}

-- the leap that a list of days and leaps has for a day
abbrev pub leap_of : List (ℕ × Leap) → ℕ → Option Leap
leap_of [] day = None
leap_of (x ∷ xs) day = if x.0 == day then Some x.1 else leap_of xs day

-- whether the leap is a deletion
abbrev pub is_deletion : Option Leap → Bool
is_deletion None = false
is_deletion (Some Insert) = false
is_deletion (Some Delete) = true

-- the seconds of a day that ends with this leap
abbrev pub length_by : Option Leap → ℕ
length_by None = 86400
length_by (Some Insert) = 86401
length_by (Some Delete) = 86399

-- what is truly said of a month's end with this leap
abbrev pub mark_by : Option Leap → Mark
mark_by None = mark.NoLeap
mark_by (Some Insert) = mark.Insert
mark_by (Some Delete) = mark.Delete

-- the seconds of a day
abbrev pub day_length : List (ℕ × Leap) → ℕ → ℕ
day_length leaps day = length_by (leap_of leaps day)

-- a timeline: where it begins, and its leaps by day
pub record TimelineValue : Type 0 where
  pub start : UtcSecond
  pub leaps : List (ℕ × Leap)

-- the timeline with this start and these leaps
abbrev pub times : UtcSecond → List (ℕ × Leap) → TimelineValue
times start leaps = record { start = start; leaps = leaps }

-- f 0 + .. + f (n - 1)
abbrev pub sum_below : (ℕ → ℕ) → ℕ → ℕ
sum_below f zero = 0
sum_below f (suc n) = sum_below f n + f n

-- the lengths of this many days from a day on
abbrev pub seconds_in : List (ℕ × Leap) → ℕ → ℕ → ℕ
seconds_in leaps day days = sum_below (λ k. day_length leaps (day + k)) days

-- u is T(n): the n-th second after the start, by the lengths of the days from the start's day to
-- the one before u's
pub record IsSecond (t : TimelineValue) (n : ℕ) (u : UtcSecond) : Type 0 where
  pub from : t.start.day ≤ u.day
  pub to : u.day ≤ LAST_DAY
  pub sod : u.sod < day_length t.leaps u.day
  pub sum : seconds_in t.leaps t.start.day (u.day - t.start.day) + u.sod ≡ t.start.sod + n

-- T(n) is the last second: T(n + 1) does not exist
abbrev pub EndsAt : TimelineValue → ℕ → Type 0
EndsAt t n = (v : UtcSecond) → ¬ IsSecond t (n + 1) v

-- what a true frame of a second says of a leap
abbrev pub true_mark : List (ℕ × Leap) → UtcSecond → Mark
true_mark leaps u =
    if is_month_end u.day
    then (if nat_lt u.sod 86341 then mark.Unspoken
    else (if nat_lt u.sod 86400 then mark_by (leap_of leaps u.day) else mark.Unspoken))
    else mark.Unspoken

-- the claim is of T(n - 1), with the mark that a true frame of it says
pub record IsTrueClaim (t : TimelineValue) (n : ℕ) (c : Claim) : Type 0 where
  pub second : (m : ℕ) × (n ≡ m + 1) × IsSecond t m c.at
  pub mark : c.mark ≡ true_mark t.leaps c.at

-- ---- the same as functions

-- the second that comes so many seconds after a day begins, if it lies in one of this many days
abbrev pub second_within : List (ℕ × Leap) → ℕ → ℕ → ℕ → Option UtcSecond
second_within leaps day zero seconds = None
second_within leaps day (suc days) seconds =
    if nat_lt seconds (day_length leaps day) then Some (record { day = day; sod = seconds })
    else second_within leaps (day + 1) days (seconds - day_length leaps day)

-- T(n), if there is one: the u of IsSecond
unfoldable pub second_at : TimelineValue → ℕ → Option UtcSecond
second_at t n = second_within t.leaps t.start.day (LAST_DAY + 1 - t.start.day) (t.start.sod + n)

-- the true claim of a second
abbrev pub true_claim : List (ℕ × Leap) → UtcSecond → Claim
true_claim leaps u = record { at = u; mark = true_mark leaps u }

-- the true claim of T(n), if there is one: the c of IsTrueClaim at n + 1
abbrev pub truth_at : TimelineValue → ℕ → Option Claim
truth_at t n = option_map (true_claim t.leaps) (second_at t n)
