-- What the first column of a table is by its name.
-- Source: this project's profile: a name that begins with time, or is that of a unit.
use Rattle.std.specs.Prelude.{ℕ, Bool, ◌&&◌, ◌||◌, if◌then◌else◌, List, [], ◌∷◌, length, take, drop, codes, Option, Some, None, nat_le}
use Rattle.std.specs.Str.{bytes_eq, str_eq_ignore_ascii_case}
use Rattle.record_cells.specs.declared.unit.Unit.{Unit}
use Rattle.record_cells.specs.declared.unit.Unit.TheVariants.{Second, Millisecond, Microsecond, Nanosecond, Picosecond, Femtosecond}
use Rattle.record_cells.specs.declared.unit.Column.{Column}
use Rattle.record_cells.specs.declared.unit.Column.TheVariants.{Levels, Times, Unknown}
use Rattle.record_cells.specs.Cells.{before}

-- how many femtoseconds a unit has, as a power of 10
abbrev pub power_of : Unit → ℕ
power_of Second = 15
power_of Millisecond = 12
power_of Microsecond = 9
power_of Nanosecond = 6
power_of Picosecond = 3
power_of Femtosecond = 0

-- the unit whose name a column has
abbrev pub unit_called : (name : List ℕ) → Option Unit
unit_called name =
    if str_eq_ignore_ascii_case name (codes "seconds") then Some Second
    else (if str_eq_ignore_ascii_case name (codes "milliseconds") then Some Millisecond
    else (if str_eq_ignore_ascii_case name (codes "microseconds") then Some Microsecond
    else (if str_eq_ignore_ascii_case name (codes "nanoseconds") then Some Nanosecond
    else (if str_eq_ignore_ascii_case name (codes "picoseconds") then Some Picosecond
    else (if str_eq_ignore_ascii_case name (codes "femtoseconds") then Some Femtosecond else None)))))

-- a name begins with time
abbrev pub is_time : (name : List ℕ) → Bool
is_time name = nat_le 4 (length name) && str_eq_ignore_ascii_case (take 4 name) (codes "time")

-- a text from its first bracket on, [ or (
abbrev pub behind_bracket : (name : List ℕ) → List ℕ
behind_bracket name = drop (before 91 40 name) name

-- the first bracket, and what stands in it, up to ] or )
abbrev pub bracketed : (name : List ℕ) → List ℕ
bracketed name = take (before 93 41 (behind_bracket name)) (behind_bracket name)

-- the unit of a short name; the micro sign is U+00B5 or U+03BC
abbrev pub unit_of : (name : List ℕ) → Option Unit
unit_of name =
    if bytes_eq name (codes "s") then Some Second
    else (if bytes_eq name (codes "ms") then Some Millisecond
    else (if bytes_eq name (codes "us") then Some Microsecond
    else (if bytes_eq name (194 ∷ 181 ∷ 115 ∷ []) || bytes_eq name (206 ∷ 188 ∷ 115 ∷ []) then Some Microsecond
    else (if bytes_eq name (codes "ns") then Some Nanosecond
    else (if bytes_eq name (codes "ps") then Some Picosecond
    else (if bytes_eq name (codes "fs") then Some Femtosecond else None))))))

-- times in this unit, if it is one
abbrev pub times_in : Option Unit → Column
times_in (Some unit) = Times unit
times_in None = Unknown

-- the times of a column whose name has such a bracket; without one they are in seconds
abbrev pub unit_told : (bracketed : List ℕ) → Column
unit_told [] = Times Second
unit_told (b ∷ bs) = times_in (unit_of bs)

-- what a column is that has a unit's name, or not
abbrev pub column_by : Option Unit → (name : List ℕ) → Column
column_by (Some unit) name = Times unit
column_by None name = if is_time name then unit_told (bracketed name) else Levels

-- what a column is by its name
abbrev pub column_of : (name : List ℕ) → Column
column_of name = column_by (unit_called name) name
