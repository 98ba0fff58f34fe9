-- The texts of a day and of a second: YYYY-MM-DD and YYYY-MM-DDTHH:MM:SSZ, in decimal digits with
-- leading zeros.
-- Source: RFC 3339, the time with Z; which of them have a text is this project's profile.
use Rattle.std.specs.Prelude.{◌≡◌, ℕ, ◌+◌, ◌/◌, ◌%◌, List, [], ◌∷◌, ◌++◌, pos}
use Rattle.irig_time.specs.declared.second.UtcSecond.{UtcSecond}
use Rattle.irig_time.specs.Days.{IsDateOf}
use Rattle.irig_time.specs.Seconds.{minute_of, second_of}

-- two decimal digits, in ASCII
abbrev pub two : ℕ → List ℕ
two n = (48 + n / 10) ∷ (48 + n % 10) ∷ []

-- 45 is '-'
abbrev pub date_text : ℕ → ℕ → ℕ → List ℕ
date_text year month day = two (year / 100) ++ two (year % 100) ++ 45 ∷ two month ++ 45 ∷ two day

-- 84 is 'T', 58 ':' and 90 'Z'
abbrev pub time_text : ℕ → ℕ → ℕ → List ℕ
time_text hour minute second = 84 ∷ two hour ++ 58 ∷ two minute ++ 58 ∷ two second ++ 90 ∷ []

-- the text is the date of the day
pub record IsDayText (day : ℕ) (bytes : List ℕ) : Type 0 where
  pub year : ℕ
  pub month : ℕ
  pub day_of_month : ℕ
  pub date : IsDateOf day (pos year) month day_of_month
  pub text : bytes ≡ date_text year month day_of_month

-- the text is of the date of u's day and the time of day
pub record IsText (u : UtcSecond) (bytes : List ℕ) : Type 0 where
  pub year : ℕ
  pub month : ℕ
  pub day_of_month : ℕ
  pub date : IsDateOf u.day (pos year) month day_of_month
  pub text : bytes ≡ date_text year month day_of_month
      ++ time_text (minute_of u / 60) (minute_of u % 60) (second_of u)
