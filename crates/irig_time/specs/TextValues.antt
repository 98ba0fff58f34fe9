-- The texts of days and seconds, and what is read of a text, as functions.
-- Source: RFC 3339, by the definitions of Texts.antt.
use Rattle.std.specs.Prelude.{ℕ, ◌+◌, ◌-◌, List, [], ◌++◌, ◌/◌, ◌%◌, if◌then◌else◌, Bool, map, Option, option_map, unwrap_or, pos}
use Rattle.std.specs.Ordering.{int_eq}
use Rattle.std.specs.List.{find, flat_map, range_with_len}
use Rattle.std.specs.Str.{bytes_eq}
use Rattle.jiff_core.specs.Calendar.{days_from_civil, days_in_month}
use Rattle.irig_time.specs.declared.second.UtcSecond.{UtcSecond}
use Rattle.irig_time.specs.declared.second.TheConstants.{FIRST_DAY, LAST_DAY}
use Rattle.irig_time.specs.Days.{is_month_end}
use Rattle.irig_time.specs.Seconds.{minute_of, second_of}
use Rattle.irig_time.specs.Texts.{date_text, time_text}

-- a year, a month and a day of the month
abbrev pub Ymd : Type 0
Ymd = ℕ × ℕ × ℕ

-- the dates from 2000-01-01 to 2099-12-31
unfoldable pub dates : List Ymd
dates =
    flat_map (λ year.
    flat_map (λ month.
    map (λ day. (year, month, day)) (range_with_len 1 (days_in_month (pos year) month)))
    (range_with_len 1 12))
    (range_with_len 2000 100)

-- whether this is the date of the day, which is counted from 2000-01-01
abbrev pub is_date_of : ℕ → Ymd → Bool
is_date_of day d = int_eq (days_from_civil (pos d.0) d.1 d.2) (pos (day + 10957))

-- the text of a day from 2000-01-01 to 2099-12-31, and nothing for a later one
unfoldable pub day_text : ℕ → List ℕ
day_text day = unwrap_or (option_map (λ d. date_text d.0 d.1 d.2) (find (is_date_of day) dates)) []

-- the text of a second
unfoldable pub second_text : UtcSecond → List ℕ
second_text u = day_text u.day ++ time_text (minute_of u / 60) (minute_of u % 60) (second_of u)

-- the seconds of a day, with 86400 on a month's last
abbrev pub seconds_of : ℕ → List UtcSecond
seconds_of day =
    map (λ sod. record { day = day; sod = sod })
    (range_with_len 0 (if is_month_end day then 86401 else 86400))

-- the valid seconds
unfoldable pub valid_seconds : List UtcSecond
valid_seconds = flat_map seconds_of (range_with_len FIRST_DAY (LAST_DAY + 1 - FIRST_DAY))

-- the day from 2000-01-01 to 2099-12-31 whose text it is
unfoldable pub day_read : List ℕ → Option ℕ
day_read text = find (λ day. bytes_eq (day_text day) text) (range_with_len 0 36525)

-- the valid second whose text it is
unfoldable pub second_read : List ℕ → Option UtcSecond
second_read text = find (λ u. bytes_eq (second_text u) text) valid_seconds
