-- Known values of the calendar and of leaps, so that a wrong definition does not check.
use Rattle.std.proofs.Common.{◌≡◌, ℕ, ◌+◌, true, false, List, [], ◌∷◌, map, Option, Some, None, Err, pos, refl, arith}
use Rattle.std.specs.Prelude.{codes, ◌++◌}
use Rattle.jiff_core.specs.Calendar.{days_from_civil, day_count, days_of_years, days_of_months}
use Rattle.irig_time.specs.declared.second.UtcSecond.{UtcSecond}
use Rattle.irig_control.specs.declared.parity.Parity.TheVariants.{Even}
use Rattle.irig_time.specs.declared.rules.Sense.TheVariants.{Add}
use Rattle.irig_time.specs.declared.rules.SbsUse.TheVariants.{Check}
use Rattle.irig_time.specs.declared.rules.TheConstants.Rules.{PLAIN}
use Rattle.irig_time.specs.declared.second.TheConstants.{FIRST_DAY, LAST_DAY}
use Rattle.irig_time.specs.Days.{day_number, year_length, IsMonthEnd, four_years, is_month_end}
use Rattle.irig_time.proofs.MonthEnds.{month_end_served}
use Rattle.irig_time.specs.Seconds.{minute_of, second_of}
use Rattle.irig_time.specs.Texts.{date_text, time_text}
use Rattle.irig_control.specs.declared.control.Control.{Control}
use Rattle.irig_time.specs.declared.mark.Mark.TheVariants.{Unspoken, NoLeap, Insert, Delete}
use Rattle.irig_time.specs.declared.leap.Leap.{Leap}
use Rattle.irig_time.specs.declared.leap.Leap.TheVariants as leap
use Rattle.irig_time.specs.Next.{next_at_month_end, next_day}
use Rattle.irig_time.specs.Timelines.{TimelineValue, times, day_length, IsSecond}
use Rattle.irig_time.specs.Claims.{frame_mark, utc_minute, claim_by}
use Rattle.irig_frame.specs.declared.coded.Coded.{Coded}
use Rattle.irig_time.specs.declared.claim.TimeFault.TheVariants as fault
use Rattle.irig_time.specs.declared.timeline.TimelineFault.TheVariants.{OutOfYears, BadStart}
use Rattle.irig_time.specs.declared.table.TableFault.TheVariants as table
use Rattle.irig_time.specs.TimelineFaults.{leap_fault, timeline_fault}
use Rattle.irig_time.specs.Tables.{table_fault}

-- 2000-01-01 is day 0, 2000-12-31 day 365, 2016-12-31 day 6209, 2099-12-30 day 36523 and 2099-12-31
-- day 36524
pub known_days : (day_number 0 1 ≡ 0) × (day_number 0 366 ≡ 365) × (day_number 16 366 ≡ 6209) × (day_number 99 364 ≡ 36523) × (day_number 99 365 ≡ 36524)
known_days = (refl, refl, refl, refl, refl)

-- the same dates by the calendar, from 1970-01-01
pub known_dates : (days_from_civil (pos 2000) 1 1 ≡ pos 10957) × (days_from_civil (pos 2016) 12 31 ≡ pos (6209 + 10957))
    × (days_from_civil (pos 2099) 12 30 ≡ pos (36523 + 10957)) × (days_from_civil (pos 2099) 12 31 ≡ pos (36524 + 10957))
unfolding days_from_civil day_count days_of_years days_of_months
known_dates = (refl, refl, refl, refl)

-- the years served begin with 2000-01-02 and end with 2099-12-30
pub known_bounds : (FIRST_DAY ≡ day_number 0 2) × (LAST_DAY ≡ day_number 99 364)
known_bounds = (refl, refl)

-- even parity, the offset is added, the straight binary seconds are compared
pub known_rules : PLAIN ≡ record { parity = Even; sense = Add; sbs = Check }
known_rules = refl

-- 2000, 2016 and 2096 are leap years, 2001 and 2099 are not
pub known_years : map year_length (0 ∷ 16 ∷ 96 ∷ 1 ∷ 99 ∷ []) ≡ 366 ∷ 366 ∷ 366 ∷ 365 ∷ 365 ∷ []
known_years = refl

-- 2017-01-01 begins a month, and so 2016-12-31 ends one
pub month_end_6209 : IsMonthEnd 6209
unfolding days_from_civil day_count days_of_years days_of_months
month_end_6209 = (pos 2017, 1, (((omega arith, omega arith), (omega arith, omega arith), (omega arith, omega arith)), refl))

-- the test says so, and so of 2000-01-31; it says of 2099-12-31, which isn't served, that it ends
-- none
pub known_month_end : is_month_end 6209 ≡ true
unfolding is_month_end four_years
known_month_end = refl

pub known_first_end : is_month_end 30 ≡ true
unfolding is_month_end four_years
known_first_end = refl

-- February of 2000 and of 2016 has 29 days, that of 2001 and of 2099 has 28; and the last month that
-- is served ends with 2099-11-30
pub known_februaries : map is_month_end (58 ∷ 59 ∷ 424 ∷ 425 ∷ 5902 ∷ 5903 ∷ 36218 ∷ 36219 ∷ 36493 ∷ []) ≡ false ∷ true ∷ true ∷ false ∷ false ∷ true ∷ true ∷ false ∷ true ∷ []
unfolding is_month_end four_years
known_februaries = refl

pub known_last_end : ¬ (is_month_end 36524 ≡ true)
known_last_end h = omega (arith, month_end_served 36524 h)

abbrev second : ℕ → UtcSecond
second sod = record { day = 6209; sod = sod }

-- 23:59:59 and 23:59:60 lie in the minute 23:59, and 23:58:59 before it
pub known_minutes : (map (λ sod. minute_of (second sod)) (86339 ∷ 86340 ∷ 86399 ∷ 86400 ∷ []) ≡ 1438 ∷ 1439 ∷ 1439 ∷ 1439 ∷ [])
    × (map (λ sod. second_of (second sod)) (86339 ∷ 86340 ∷ 86399 ∷ 86400 ∷ []) ≡ 59 ∷ 0 ∷ 59 ∷ 60 ∷ [])
known_minutes = (refl, refl)

pub known_text : date_text 2016 12 31 ++ time_text 23 59 60 ≡ codes "2016-12-31T23:59:60Z"
known_text = refl

-- ---- leaps

abbrev at : ℕ → ℕ → UtcSecond
at day sod = record { day = day; sod = sod }

-- of a month's last day: by no word, by "no leap", by an insertion and by a deletion
abbrev after : ℕ → List (Option UtcSecond)
after sod = map (next_at_month_end (at 6209 sod)) (Unspoken ∷ NoLeap ∷ Insert ∷ Delete ∷ [])

pub known_steps : (after 86397 ≡ Some (at 6209 86398) ∷ Some (at 6209 86398) ∷ Some (at 6209 86398) ∷ Some (at 6209 86398) ∷ [])
    × (after 86398 ≡ None ∷ Some (at 6209 86399) ∷ Some (at 6209 86399) ∷ Some (at 6210 0) ∷ [])
    × (after 86399 ≡ None ∷ Some (at 6210 0) ∷ Some (at 6209 86400) ∷ Some (at 6210 0) ∷ [])
    × (after 86400 ≡ Some (at 6210 0) ∷ Some (at 6210 0) ∷ Some (at 6210 0) ∷ Some (at 6210 0) ∷ [])
known_steps = (refl, refl, refl, refl)

-- the years end with 2099-12-30
pub known_end : next_day (at 36523 86399) ≡ None
known_end = refl

-- 86401 seconds with an inserted one, 86399 with a deleted one
abbrev leaps : List (ℕ × Leap)
leaps = (6209, leap.Insert) ∷ (6240, leap.Delete) ∷ []

pub known_lengths : map (day_length leaps) (6208 ∷ 6209 ∷ 6210 ∷ 6240 ∷ []) ≡ 86400 ∷ 86401 ∷ 86400 ∷ 86399 ∷ []
known_lengths = refl

abbrev timeline : TimelineValue
timeline = times (at 6209 86390) leaps

-- from 2016-12-31T23:59:50: 23:59:60 is the tenth second after it, and then comes 2017
pub known_seconds : IsSecond timeline 9 (at 6209 86399) × IsSecond timeline 10 (at 6209 86400) × IsSecond timeline 11 (at 6210 0)
known_seconds = (
  record { from = omega arith; to = omega arith; sod = omega arith; sum = refl },
  record { from = omega arith; to = omega arith; sod = omega arith; sum = refl },
  record { from = omega arith; to = omega arith; sod = omega arith; sum = refl },
)

-- pending, insert: heard in seconds 1 to 59 of the last minute alone
abbrev pending : Control
pending = record { leap_pending = true; leap_delete = false; dst_pending = false; dst = false; offset_half_hours = pos 0; quality = 0 }

pub known_marks : (map (λ second. frame_mark true second pending) (0 ∷ 1 ∷ 59 ∷ 60 ∷ []) ≡ Unspoken ∷ Insert ∷ Insert ∷ Unspoken ∷ [])
    × (map (λ second. frame_mark false second pending) (0 ∷ 1 ∷ 59 ∷ 60 ∷ []) ≡ Unspoken ∷ Unspoken ∷ Unspoken ∷ Unspoken ∷ [])
known_marks = (refl, refl)

-- ---- the first of two faults

abbrev coded : ℕ → ℕ → ℕ → Coded
coded year day second = record { second = second; minute = 0; hour = 12; day = day; year = year; control = 0; sbs = 0 }

-- day 366 of 2099 is neither a day nor served; 2000-01-01 isn't served, and has no 12:00:60; day
-- 366 of 2017 isn't there, and has none
pub known_time_order : map (λ c. claim_by Add c (record pending { leap_pending = false })) (coded 99 366 0 ∷ coded 0 1 60 ∷ coded 17 366 60 ∷ coded 99 365 0 ∷ [])
    ≡ Err fault.NoSuchDay ∷ Err fault.OutOfYears ∷ Err fault.NoSuchDay ∷ Err fault.OutOfYears ∷ []
unfolding utc_minute
known_time_order = refl

-- the years go before the month's end: 2000-01-01 and 2099-12-31 aren't served
pub known_leap_order : map (leap_fault []) (0 ∷ 36524 ∷ []) ≡ Some OutOfYears ∷ Some OutOfYears ∷ []
known_leap_order = refl

-- the leaps of a timeline go before its start, and of two leaps the first in the list's order
pub known_timeline_order : (timeline_fault (at 0 0) ((0, leap.Insert) ∷ []) ≡ Some OutOfYears) × (timeline_fault (at 0 0) [] ≡ Some BadStart)
known_timeline_order = (refl, refl)

-- the end of a table goes before its leaps, and 2000-01-01 before the month's end
pub known_table_order : (table_fault 36524 ((0, leap.Insert) ∷ []) ≡ Some table.TableEnd) × (table_fault 36523 ((0, leap.Insert) ∷ []) ≡ Some table.TableDay)
known_table_order = (refl, refl)
