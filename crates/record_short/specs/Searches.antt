-- Which seconds near a stamp fit what is seen of a line, and when the recording begins by each.
-- Source: ITU-R TF.460 for leap seconds, by the timelines of irig_time; which seconds are tried is this
-- project's profile.
use Rattle.std.specs.Prelude.{◌≡◌, ℕ, zero, suc, ◌+◌, ◌-◌, ◌*◌, ◌/◌, ◌<◌, ◌≤◌, Bool, false, ◌||◌, nat_lt, nat_eq, if◌then◌else◌, List, [], ◌∷◌, ◌++◌, length, Option, Some, None, IfSome}
use Rattle.irig_time.specs.declared.second.UtcSecond.{UtcSecond}
use Rattle.irig_time.specs.declared.leap.Leap.{Leap}
use Rattle.irig_time.specs.declared.leap.Leap.TheVariants.{Insert, Delete}
use Rattle.irig_time.specs.Days.{is_month_end}
use Rattle.irig_time.specs.Seconds.{IsValid, is_valid, same_second}
use Rattle.irig_time.specs.Timelines.{day_length, second_within}
use Rattle.record_short.specs.declared.search.Beginning.{Beginning}
use Rattle.record_short.specs.declared.search.Found.{Found}
use Rattle.record_short.specs.declared.search.Search.{Search}
use Rattle.record_short.specs.declared.second.Five.{Five}
use Rattle.record_short.specs.declared.seen.Seen.{Seen}
use Rattle.record_short.specs.Fits.{fits}

-- a search is about a valid second, and 900 s away from it at most
pub record IsSearch (s : Search) : Type 0 where
  pub stamp : IsValid s.stamp
  pub fraction : s.nanoseconds < 1000000000
  pub within : s.within ≤ 900

-- ---- seconds, counted from the beginning of a day, with a leap or without

-- a leap and its day, if there is one, as a list
abbrev pub listed : Option (ℕ × Leap) → List (ℕ × Leap)
listed None = []
listed (Some leap) = leap ∷ []

-- a second, if it is served
abbrev pub if_served : UtcSecond → Option UtcSecond
if_served second = if is_valid second then Some second else None

-- the same of one that may be none
abbrev pub served : Option UtcSecond → Option UtcSecond
served None = None
served (Some second) = if_served second

-- the second of this number in a day or the two days after it, if it is served
abbrev pub second_in : Option (ℕ × Leap) → (day number : ℕ) → Option UtcSecond
second_in leap day number = served (second_within (listed leap) day 3 number)

-- the five seconds about one
abbrev pub seconds_about : Option (ℕ × Leap) → (day number : ℕ) → Five
seconds_about leap day number = record {
  two_before = second_in leap day (number - 2);
  before = second_in leap day (number - 1);
  here = second_in leap day number;
  after = second_in leap day (number + 1);
  two_after = second_in leap day (number + 2);
}

-- these are served, as far as they are there
pub record AreServed (five : Five) : Type 0 where
  pub two_before : IfSome five.two_before IsValid
  pub before : IfSome five.before IsValid
  pub here : IfSome five.here IsValid
  pub after : IfSome five.after IsValid
  pub two_after : IfSome five.two_after IsValid

-- ---- about a stamp

-- seconds are counted from the day before the stamp's
abbrev pub first_day : Search → ℕ
first_day s = s.stamp.day - 1

-- the number of the second that begins nearest to when the stamp has the second seen begin
abbrev pub nearest : Search → Option (ℕ × Leap) → Seen → ℕ
nearest s leap seen =
    day_length (listed leap) (first_day s) + s.stamp.sod
    + (s.nanoseconds + seen.begins_us * 1000 + 500000000) / 1000000000

-- the last day that may end in reach: the stamp's, or the one before, if it has only just begun
abbrev pub end_near : Search → ℕ
end_near s = if nat_lt s.stamp.sod s.within then s.stamp.day - 1 else s.stamp.day

-- a leap at its end, if that is a month's
abbrev pub leap_at_end : Search → Leap → Option (ℕ × Leap)
leap_at_end s leap = if is_month_end (end_near s) then Some (end_near s, leap) else None

-- one that is inserted
abbrev pub insertion : Search → Option (ℕ × Leap)
insertion s = leap_at_end s Insert

-- one that is deleted, which the day of a stamp in second 60 has not
abbrev pub deletion : Search → Option (ℕ × Leap)
deletion s = if nat_eq s.stamp.sod 86400 then None else leap_at_end s Delete

-- ---- a beginning of the recording

-- so many whole seconds are needed to hold what passes before the second seen begins
abbrev pub seconds_before : Seen → ℕ
seconds_before seen = (seen.begins_us + 999999) / 1000000

-- the recording begins in this second, if it is served
abbrev pub beginning_in : Option UtcSecond → Option (ℕ × Leap) → Seen → Option Beginning
beginning_in None leap seen = None
beginning_in (Some second) leap seen = Some (record {
  second = second;
  since_us = seconds_before seen * 1000000 - seen.begins_us;
  leap = leap;
})

-- where the second of a number begins as it was seen, if that fits
abbrev pub beginning_at : Search → Seen → Option (ℕ × Leap) → (number : ℕ) → Option Beginning
beginning_at s seen leap number =
    if fits s.rules seen.shown (seconds_about leap (first_day s) number)
    then beginning_in (second_in leap (first_day s) (number - seconds_before seen)) leap seen
    else None

-- the same by a place in the search, from 0 to twice as far as it goes, by seconds with a leap or without
abbrev pub beginning_by : Search → Seen → Option (ℕ × Leap) → (place : ℕ) → Option Beginning
beginning_by s seen leap place = beginning_at s seen leap (nearest s leap seen + place - s.within)

-- by a leap, if there may be one
abbrev pub beginning_with : Search → Seen → Option (ℕ × Leap) → (place : ℕ) → Option Beginning
beginning_with s seen None place = None
beginning_with s seen (Some leap) place = beginning_by s seen (Some leap) place

-- a beginning is in the same second as another one
abbrev pub is_in : Option Beginning → UtcSecond → Bool
is_in None second = false
is_in (Some b) second = same_second b.second second

-- a beginning in another second than these two
abbrev pub unlike : Option Beginning → (one two : Option Beginning) → Option Beginning
unlike None one two = None
unlike (Some b) one two = if is_in one b.second || is_in two b.second then None else Some b

-- one, if there is one
abbrev pub present : Option Beginning → List Beginning
present None = []
present (Some b) = b ∷ []

-- more beginnings of a place, as far as they differ: without a leap, with one inserted, and with one deleted
abbrev pub with_three : List Beginning → (plain inserted deleted : Option Beginning) → List Beginning
with_three all plain inserted deleted =
    ((all ++ present plain) ++ present (unlike inserted plain None))
    ++ present (unlike deleted plain (unlike inserted plain None))

-- more beginnings, those of a place
abbrev pub with_those_at : Search → Seen → (place : ℕ) → List Beginning → List Beginning
with_those_at s seen place all =
    with_three all (beginning_by s seen None place) (beginning_with s seen (insertion s) place)
    (beginning_with s seen (deletion s) place)

-- those at so many places
abbrev pub beginnings_below : Search → Seen → (places : ℕ) → List Beginning
beginnings_below s seen zero = []
beginnings_below s seen (suc n) = with_those_at s seen n (beginnings_below s seen n)

-- all: from so many seconds before the nearest to as many after it
abbrev pub beginnings : Search → Seen → List Beginning
beginnings s seen = beginnings_below s seen (2 * s.within + 1)

-- the first of them
abbrev pub first_in : List Beginning → Option Beginning
first_in [] = None
first_in (b ∷ rest) = Some b

-- this was found of them: how many, and the first
pub record IsFound (found : Found) (all : List Beginning) : Type 0 where
  pub count : found.count ≡ length all
  pub first : found.first ≡ first_in all

-- a line tells a beginning if it is the only one
abbrev pub told_by : List Beginning → Option Beginning
told_by (b ∷ []) = Some b
told_by _ = None
