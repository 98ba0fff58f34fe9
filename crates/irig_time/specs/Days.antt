-- Days, counted from 2000-01-01, which is day 0 here and day 10957 from 1970-01-01; and their
-- dates.
-- Source: the Gregorian calendar from 2000 to 2099; the dates of days are those of jiff_core.
use Rattle.std.specs.Prelude.{◌≡◌, ℕ, ◌+◌, ◌-◌, ◌*◌, ◌/◌, ◌%◌, ◌==◌, ◌&&◌, ◌||◌, nat_le, nat_lt, if◌then◌else◌, Bool, false, ℤ, pos, List, [], ◌∷◌, ◌++◌}
use Rattle.irig_time.specs.declared.second.TheConstants.{LAST_DAY}
use Rattle.jiff_core.specs.Calendar.{days_from_civil, IsCivilDate}

-- the number of a day by its year from 2000 and its place in the year, from 1
abbrev pub day_number : ℕ → ℕ → ℕ
day_number yy doy = 365 * yy + (yy + 3) / 4 + doy - 1

-- a year has 366 days if 4 divides it, from 2000 to 2099
abbrev pub year_length : ℕ → ℕ
year_length yy = if yy % 4 == 0 then 366 else 365

-- the day has this year, month and day of the month
abbrev pub IsDateOf : ℕ → ℤ → ℕ → ℕ → Type 0
IsDateOf day y m d = IsCivilDate y m d × (days_from_civil y m d ≡ pos (day + 10957))

-- the next day is the first of a month
abbrev pub IsMonthEnd : ℕ → Type 0
IsMonthEnd day = (y : ℤ) × (m : ℕ) × IsDateOf (day + 1) y m 1

-- the days of the months of a year, by those of its February
abbrev pub months_with : ℕ → List ℕ
months_with february =
    31 ∷ february ∷ 31 ∷ 30 ∷ 31 ∷ 30 ∷ 31 ∷ 31 ∷ 30 ∷ 31 ∷ 30 ∷ 31 ∷ []

-- those of four years from a leap year on: from 2000 to 2099 every fourth year is one
unfoldable pub four_years : List ℕ
four_years = months_with 29 ++ (months_with 28 ++ (months_with 28 ++ months_with 28))

-- whether one of these months ends with the day, the first day of the first month being day 1
abbrev pub ends_one : ℕ → List ℕ → Bool
ends_one day [] = false
ends_one day (month ∷ months) =
    day == month || (nat_lt month day && ends_one (day - month) months)

-- the same as a test, of the days served: four years have 1461 days
unfoldable pub is_month_end : ℕ → Bool
is_month_end day = nat_le day LAST_DAY && ends_one (day % 1461 + 1) four_years
