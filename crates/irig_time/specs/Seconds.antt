-- Seconds of UTC.
-- Source: 2000-01-02 to 2099-12-30 by this project's profile; 23:59:60 at a month's end by ITU-R
-- TF.460.
use Rattle.std.specs.Prelude.{◌≡◌, ℕ, ◌+◌, ◌-◌, ◌*◌, ◌/◌, ◌≤◌, min, Bool, ◌==◌, ◌&&◌, ◌||◌, nat_lt, nat_le, ◌⊎◌}
use Rattle.irig_time.specs.declared.second.UtcSecond.{UtcSecond}
use Rattle.irig_time.specs.declared.second.TheConstants.{FIRST_DAY, LAST_DAY}
use Rattle.irig_time.specs.Days.{IsMonthEnd, is_month_end}

-- a second from 2000-01-02 to 2099-12-30, where 86400 is the one inserted at a month's end (ITU-R
-- TF.460)
pub record IsValid (u : UtcSecond) : Type 0 where
  pub day : (FIRST_DAY ≤ u.day) × (u.day ≤ LAST_DAY)
  pub sod : (u.sod ≤ 86399) ⊎ ((u.sod ≡ 86400) × IsMonthEnd u.day)

-- the same as a function
abbrev pub is_valid : UtcSecond → Bool
is_valid u =
    nat_le FIRST_DAY u.day && nat_le u.day LAST_DAY
    && (nat_le u.sod 86399 || ((u.sod == 86400) && is_month_end u.day))

-- the minute of the day; an inserted second lies in the last one
abbrev pub minute_of : UtcSecond → ℕ
minute_of u = min (u.sod / 60) 1439

-- the second of that minute, 0 to 60
abbrev pub second_of : UtcSecond → ℕ
second_of u = u.sod - 60 * minute_of u

-- the minute of UTC, counted from 2000-01-01, in which a second below 86400 of its day lies
abbrev pub minute_number : UtcSecond → ℕ
minute_number u = u.day * 1440 + u.sod / 60

-- whether two seconds are the same
abbrev pub same_second : UtcSecond → UtcSecond → Bool
same_second u v = (u.day == v.day) && (u.sod == v.sod)

-- whether the first second is at or before the other
abbrev pub has_come : UtcSecond → UtcSecond → Bool
has_come at u = nat_lt at.day u.day || ((at.day == u.day) && nat_le at.sod u.sod)
