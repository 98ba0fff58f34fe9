-- The time that a frame codes for a second of UTC (IRIG Standard 200-16, format B, with this
-- project's profile of the straight binary seconds).
use Rattle.std.specs.Prelude.{◌≡◌, ℕ, ◌+◌, ◌-◌, ◌*◌, ◌/◌, ◌%◌, ◌≤◌, ℤ, pos, ◌+ℤ◌, ◌*ℤ◌, unsigned_abs}
use Rattle.irig_frame.specs.declared.coded.Coded.{Coded}
use Rattle.irig_time.specs.declared.second.UtcSecond.{UtcSecond}
use Rattle.irig_time.specs.Days.{day_number, year_length}
use Rattle.irig_time.specs.Seconds.{minute_of, second_of}

-- the coded minute, counted from 2000-01-01
abbrev pub coded_minute : Coded → ℕ
coded_minute c = 1440 * day_number c.year c.day + 60 * c.hour + c.minute

-- what a clock shows that is so many half hours ahead of UTC
pub record IsCodedOf (u : UtcSecond) (half_hours : ℤ) (c : Coded) : Type 0 where
  pub time : pos (coded_minute c) ≡ pos (1440 * u.day + minute_of u) +ℤ pos 30 *ℤ half_hours
  pub second : c.second ≡ second_of u
  pub day : (1 ≤ c.day) × (c.day ≤ year_length c.year)
  pub year : c.year ≤ 99
  pub hour : c.hour ≤ 23
  pub minute : c.minute ≤ 59
  pub sbs : c.sbs ≡ 3600 * c.hour + 60 * c.minute + c.second
  pub control : c.control ≡ 0

-- ---- the same as a function

-- the minute, counted from 2000-01-01, that a clock shows which is so many half hours ahead of UTC
abbrev pub minute_shown : UtcSecond → ℤ → ℕ
minute_shown u half_hours = unsigned_abs (pos (1440 * u.day + minute_of u) +ℤ pos 30 *ℤ half_hours)

-- the year of a day, from 2000: every four years have 1461 days, the first of them 366
abbrev pub year_of_day : ℕ → ℕ
year_of_day day = 4 * day / 1461

-- what a clock shows in a minute and at this second of it
abbrev pub shown_in : ℕ → ℕ → Coded
shown_in minute second = record {
  second = second;
  minute = minute % 60;
  hour = minute % 1440 / 60;
  day = minute / 1440 + 1 - day_number (year_of_day (minute / 1440)) 1;
  year = year_of_day (minute / 1440);
  control = 0;
  sbs = 60 * (minute % 1440) + second;
}

-- the c of IsCodedOf
unfoldable pub time_shown : UtcSecond → ℤ → Coded
time_shown u half_hours = shown_in (minute_shown u half_hours) (second_of u)
