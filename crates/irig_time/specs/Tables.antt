-- A reader's table of leaps: what it says of a day, and what is wrong with one.
-- Source: docs/FRAME.md, leap tables; the order of refusals is this project's profile
-- (docs/FAULTS.md).
use Rattle.std.specs.Prelude.{ℕ, nat_lt, is_some, length, if◌then◌else◌, List, [], ◌∷◌, ◌++◌, Option, Some, None}
use Rattle.std.specs.Option.{option_or}
use Rattle.irig_time.specs.declared.mark.Mark.{Mark}
use Rattle.irig_time.specs.declared.mark.Mark.TheVariants.{Unspoken, NoLeap, Insert, Delete}
use Rattle.irig_time.specs.declared.leap.Leap.{Leap}
use Rattle.irig_time.specs.declared.table.TableFault.{TableFault}
use Rattle.irig_time.specs.declared.table.TableFault.TheVariants.{TableEnd, TableLong, TableDay, TableTwice}
use Rattle.irig_time.specs.declared.second.TheConstants.{LAST_DAY}
use Rattle.irig_time.specs.Days.{is_month_end}
use Rattle.irig_time.specs.Timelines.{leap_of, mark_by}

-- the leaps at all month ends up to a day
pub record TableValue : Type 0 where
  pub until : ℕ
  pub leaps : List (ℕ × Leap)

-- the table that ends with a day and has these leaps
abbrev pub table : ℕ → List (ℕ × Leap) → TableValue
table until leaps = record { until = until; leaps = leaps }

-- what the table says of the end of a day
abbrev pub table_mark : TableValue → ℕ → Mark
table_mark t day =
    if is_month_end day
    then (if nat_lt t.until day then Unspoken else mark_by (leap_of t.leaps day))
    else Unspoken

-- what was heard, else what the table says
abbrev pub spoken_mark : TableValue → Mark → ℕ → Mark
spoken_mark t Unspoken day = table_mark t day
spoken_mark t NoLeap day = NoLeap
spoken_mark t Insert day = Insert
spoken_mark t Delete day = Delete

-- what is wrong with a leap's day, after these leaps
abbrev pub entry_fault : ℕ → List (ℕ × Leap) → ℕ → Option TableFault
entry_fault until before day =
    if nat_lt day 1 then Some TableDay
    else (if nat_lt until day then Some TableDay
    else (if is_month_end day then (if is_some (leap_of before day) then Some TableTwice else None)
    else Some TableDay))

-- the first fault of the leaps, in the list's order, after these leaps
abbrev pub first_entry_fault : ℕ → List (ℕ × Leap) → List (ℕ × Leap) → Option TableFault
first_entry_fault until before [] = None
first_entry_fault until before (x ∷ xs) =
    option_or (entry_fault until before x.0) (first_entry_fault until (before ++ x ∷ []) xs)

-- the first fault of a table: its end, its length, then its leaps
abbrev pub table_fault : ℕ → List (ℕ × Leap) → Option TableFault
table_fault until leaps =
    if nat_lt LAST_DAY until then Some TableEnd
    else (if nat_lt 64 (length leaps) then Some TableLong else first_entry_fault until [] leaps)
