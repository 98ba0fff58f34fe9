-- The time of a row in nanoseconds before or after that of 0.
-- Source: this project's profile: a part of a nanosecond is left out.
use Rattle.std.specs.Prelude.{ℕ, ◌+◌, ◌*◌, ◌/◌, Bool, if◌then◌else◌, List, Option, Some, None, Result, Ok, Err}
use Rattle.record_levels.specs.Limits.{end_ns}
use Rattle.record_levels.specs.declared.limits.TimeFault.TheVariants.{Beyond}
use Rattle.record_text.specs.Signed.{decimal}
use Rattle.record_text.specs.declared.signed.Decimal.{Decimal}
use Rattle.record_cells.specs.declared.unit.Unit.{Unit}
use Rattle.record_table.specs.declared.row.Reason.{Reason}
use Rattle.record_table.specs.declared.row.Reason.TheVariants.{BadTime, Time}
use Rattle.record_table.specs.declared.when.When.{When}
use Rattle.record_table.specs.declared.when.When.TheVariants.{After, Before}
use Rattle.record_cells.specs.Scales.{below, scaled}
use Rattle.record_cells.specs.Units.{power_of}

-- before or after the time of 0
abbrev pub signed : (minus : Bool) → (time : ℕ) → When
signed minus time = if minus then Before time else After time

-- a time that is not 1,000 hours or more off that of 0
abbrev pub when_by : (minus : Bool) → (time : Option ℕ) → Result When Reason
when_by minus (Some time) = Ok (signed minus time)
when_by minus None = Err (Time Beyond)

-- a decimal number of units, of which a nanosecond has a million femtoseconds
abbrev pub when_scaled : Unit → Option Decimal → Result When Reason
when_scaled unit None = Err BadTime
when_scaled unit (Some d) = when_by d.is_minus (below end_ns (scaled d.number (d.up + power_of unit) (d.down + 6)))

-- the time that a cell says in a unit
abbrev pub when_of : Unit → (cell : List ℕ) → Result When Reason
when_of unit cell = when_scaled unit (decimal cell)

-- so many samples after the first in nanoseconds, at a rate in millionths of a sample a second
abbrev pub row_ns : (rows rate : ℕ) → Option ℕ
row_ns rows rate = below end_ns (rows * 1000000000000000 / rate)
