-- The leaps that numbers give, and what is wrong with them.
-- Source: docs/FRAME.md, leap tables; docs/FAULTS.md for the numbers.
use Rattle.std.specs.Prelude.{◌≡◌, ℕ, ◌==◌, ◌&&◌, Bool, true, List, [], ◌∷◌, nat_le, nat_lt, if◌then◌else◌, Option, Some, None, min, take, map}
use Rattle.irig_time.specs.declared.second.TheConstants.{LAST_DAY}
use Rattle.irig_time.specs.declared.leap.Leap.{Leap}
use Rattle.irig_time.specs.declared.leap.Leap.TheVariants.{Insert, Delete}
use Rattle.irig_time.specs.declared.table.TableFault.{TableFault}
use Rattle.irig_time.specs.declared.table.TableFault.TheVariants.{TableEnd, TableLong}
use Rattle.irig_time.specs.Tables.{TableValue, table, table_fault}
use Rattle.c_numbers.specs.declared.table.IrigLeap.{IrigLeap}
use Rattle.c_numbers.specs.declared.table.IrigTable.{IrigTable}
use Rattle.c_numbers.specs.Numbers.{number_of_table_fault}

-- a leap with its day
abbrev pub leap_in : IrigLeap → ℕ × Leap
leap_in l = (l.day, if l.kind == 0 then Insert else Delete)

-- the table: of the leaps those that count
abbrev pub table_in : IrigTable → TableValue
table_in t = table t.until (map leap_in (take (min t.len 64) t.leaps))

-- whether the kind of each leap has a meaning
abbrev pub are_kinds : List IrigLeap → Bool
are_kinds [] = true
are_kinds (l ∷ ls) = nat_le l.kind 1 && are_kinds ls

-- the kind of each leap that counts has one
abbrev pub HasKinds : IrigTable → Type 0
HasKinds t = are_kinds (take (min t.len 64) t.leaps) ≡ true

-- what is wrong with it, if anything
abbrev pub fault_in_table : IrigTable → Option TableFault
fault_in_table t =
    if nat_lt LAST_DAY t.until then Some TableEnd
    else (if nat_lt 64 t.len then Some TableLong
    else table_fault t.until (table_in t).leaps)

-- 0, or the number of a fault
abbrev pub code_of_fault : Option TableFault → ℕ
code_of_fault None = 0
code_of_fault (Some fault) = number_of_table_fault fault

-- the same, of a table
abbrev pub code_of_table : IrigTable → ℕ
code_of_table t = code_of_fault (fault_in_table t)

-- it is one that a reader may have
abbrev pub IsTable : IrigTable → Type 0
IsTable t = fault_in_table t ≡ None
