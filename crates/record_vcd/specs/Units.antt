-- Times of a value change dump in nanoseconds.
-- Source: IEEE 1364-2005, 18.2.3.8 ($timescale); that a part of a nanosecond is left out is this project's
-- profile.
use Rattle.std.specs.Prelude.{ℕ, ◌*◌, ◌/◌, ◌^◌, if◌then◌else◌, Option, Some, None, nat_lt}
use Rattle.record_vcd.specs.declared.unit.Unit.{Unit}
use Rattle.record_vcd.specs.declared.unit.Part.{Part}
use Rattle.record_vcd.specs.declared.unit.Part.TheVariants.{Whole, Thousandth, Millionth}

-- so many parts of a nanosecond in nanoseconds, rounded down
abbrev pub part_of : Part → (parts : ℕ) → ℕ
part_of Whole parts = parts
part_of Thousandth parts = parts / 1000
part_of Millionth parts = parts / 1000000

-- so many units in nanoseconds, if they are less than 2^64 parts
abbrev pub time_of : Unit → (number : ℕ) → Option ℕ
time_of unit number =
    if nat_lt (number * unit.times) (2 ^ 64) then Some (part_of unit.part (number * unit.times)) else None
