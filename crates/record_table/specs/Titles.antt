-- The line of names.
-- Source: this project's profile.
use Rattle.std.specs.Prelude.{ℕ, zero, suc, ◌+◌, ◌-◌, Bool, true, ◌&&◌, ◌||◌, if◌then◌else◌, List, [], ◌∷◌, length, map, codes, decimal, Option, Some, None, Result, Ok, Err, nat_eq, nat_le, nat_lt}
use Rattle.std.specs.Str.{bytes_eq}
use Rattle.record_text.specs.Fields.{field}
use Rattle.record_table.specs.declared.name.Name.{Name}
use Rattle.record_table.specs.declared.clock.Clock.{Clock}
use Rattle.record_table.specs.declared.clock.Clock.TheVariants.{Times, Rate, Steps}
use Rattle.record_cells.specs.declared.unit.Column.{Column}
use Rattle.record_cells.specs.declared.unit.Column.TheVariants.{Levels, Unknown}
use Rattle.record_cells.specs.declared.unit.Column.TheVariants.{Times as HasTimes}
use Rattle.record_table.specs.declared.title.HeadReason.{HeadReason}
use Rattle.record_table.specs.declared.title.HeadReason.TheVariants.{Long, NoTimes, NoChannel}
use Rattle.record_table.specs.declared.title.HeadReason.TheVariants.{Unit as NoUnit}
use Rattle.record_cells.specs.Cells.{columns_in, unquoted}
use Rattle.record_cells.specs.Units.{column_of}

-- the bytes of names
abbrev pub bytes_of : List Name → List (List ℕ)
bytes_of names = map (λ name. name.bytes.items) names

-- by what rows have their times where no column has them
abbrev pub clock_by : (rate : Option ℕ) → Result Clock HeadReason
clock_by (Some rate) = Ok (Rate rate)
clock_by None = Err NoTimes

-- by what rows have their times: the first column, or the rate of samples
abbrev pub clock_of : Column → (rate : Option ℕ) → Result Clock HeadReason
clock_of Unknown rate = Err NoUnit
clock_of (HasTimes unit) None = Ok (Times unit)
clock_of (HasTimes unit) (Some rate) = Ok (Steps unit rate)
clock_of Levels rate = clock_by rate

-- the first place at which a channel may stand
abbrev pub first_place : Clock → ℕ
first_place (Times unit) = 1
first_place (Rate rate) = 0
first_place (Steps unit rate) = 1

-- how many channels have names
abbrev pub names_in : Clock → (line : List ℕ) → ℕ
names_in clock line = columns_in line - first_place clock

-- the names of so many cells from a place on
abbrev pub names_from : (place count : ℕ) → (line : List ℕ) → List (List ℕ)
names_from place zero line = []
names_from place (suc n) line = unquoted (field place line) ∷ names_from (place + 1) n line

-- all names are this word
abbrev pub all_are : (names : List (List ℕ)) → (word : List ℕ) → Bool
all_are [] word = true
all_are (name ∷ names) word = bytes_eq name word && all_are names word

-- the names are sigrok's word for each, or empty
abbrev pub is_nameless : (names : List (List ℕ)) → Bool
is_nameless names = all_are names (codes "logic") || all_are names []

-- a D and a number
abbrev pub numbered : (number : ℕ) → List ℕ
numbered number = 68 ∷ decimal number

-- so many such names from a number on
abbrev pub numbered_from : (number count : ℕ) → List (List ℕ)
numbered_from number zero = []
numbered_from number (suc n) = numbered number ∷ numbered_from (number + 1) n

-- so many names of a list, if it has as many, and else numbered ones
abbrev pub listed : (count : ℕ) → (list : List ℕ) → List (List ℕ)
listed count list =
    if nat_lt 0 (length list) && nat_eq (columns_in list) count then names_from 0 (columns_in list) list
    else numbered_from 0 count

-- the names of a line, or those of the list that a remark has, where the line has none
abbrev pub named_by : (names : List (List ℕ)) → (list : List ℕ) → List (List ℕ)
named_by names list = if is_nameless names then listed (length names) list else names

-- the names of a line, where a remark has this list
abbrev pub title_names : Clock → (line : List ℕ) → (list : List ℕ) → List (List ℕ)
title_names clock line list = named_by (names_from (first_place clock) (names_in clock line) line) list

-- a table has a channel
abbrev pub with_channel : Result Clock HeadReason → (line : List ℕ) → Result Clock HeadReason
with_channel (Err reason) line = Err reason
with_channel (Ok clock) line = if nat_eq (names_in clock line) 0 then Err NoChannel else Ok clock

-- by what rows have their times below this line, where remarks said that rate
abbrev pub title_clock : (rate : Option ℕ) → (line : List ℕ) → Result Clock HeadReason
title_clock rate line =
    if nat_le 1024 (length line) then Err Long
    else with_channel (clock_of (column_of (unquoted (field 0 line))) rate) line
