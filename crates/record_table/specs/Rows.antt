-- What a row of a table says.
-- Source: this project's profile.
use Rattle.std.specs.Prelude.{ℕ, ◌-◌, ◌/◌, false, if◌then◌else◌, List, length, Option, Some, None, Result, Ok, Err, nat_eq, nat_le, nat_lt}
use Rattle.record_levels.specs.declared.limits.TimeFault.TheVariants.{Back}
use Rattle.record_text.specs.Fields.{after_comma, field}
use Rattle.record_text.specs.Numbers.{number}
use Rattle.record_table.specs.declared.clock.Clock.{Clock}
use Rattle.record_table.specs.declared.clock.Clock.TheVariants.{Times, Rate, Steps}
use Rattle.record_table.specs.declared.clock.Timed.{Timed}
use Rattle.record_cells.specs.declared.unit.Unit.{Unit}
use Rattle.record_table.specs.declared.row.Reason.{Reason}
use Rattle.record_table.specs.declared.row.Reason.TheVariants.{Long, NoStep, Time}
use Rattle.record_table.specs.declared.row.Plan.{Plan}
use Rattle.record_table.specs.declared.row.Row.{Row}
use Rattle.record_table.specs.declared.row.Stand.{Stand}
use Rattle.record_table.specs.declared.now.Now.{Now}
use Rattle.record_table.specs.Stands.{stand_of}
use Rattle.record_table.specs.declared.when.When.{When}
use Rattle.record_cells.specs.Cells.{unquoted}
use Rattle.record_table.specs.Whens.{row_ns, when_by, when_of}

-- the cell of a row's time
abbrev pub time_cell : (line : List ℕ) → List ℕ
time_cell line = unquoted (field 0 line)

-- a time, where this step was seen in the column of times
abbrev pub with_step : (step : ℕ) → Result When Reason → Result Timed Reason
with_step step (Ok when) = Ok (record { when = when; step = step })
with_step step (Err reason) = Err reason

-- the first whole time is one step
abbrev pub step_by : (step count : ℕ) → ℕ
step_by step count = if nat_eq step 0 then count else step

-- a whole time counts steps, of which the first sample has one
abbrev pub step_time : (rate step count : ℕ) → Result Timed Reason
step_time rate step count =
    if nat_eq step 0 then Err NoStep
    else (if nat_lt count step then Err (Time Back) else with_step step (when_by false (row_ns (count / step - 1) rate)))

-- the time of a cell, which is whole or not, at a rate of samples
abbrev pub counted_by : Option ℕ → Unit → (rate step : ℕ) → (cell : List ℕ) → Result Timed Reason
counted_by (Some count) unit rate step cell = step_time rate (step_by step count) count
counted_by None unit rate step cell = with_step step (when_of unit cell)

-- the same of what it spells
abbrev pub counted_time : Unit → (rate step : ℕ) → (cell : List ℕ) → Result Timed Reason
counted_time unit rate step cell = counted_by (number cell) unit rate step cell

-- when a row is, where so many rows stand above it, in which that step was seen
abbrev pub time_of : Clock → (rows step : ℕ) → (line : List ℕ) → Result Timed Reason
time_of (Times unit) rows step line = with_step step (when_of unit (time_cell line))
time_of (Rate rate) rows step line = with_step step (when_by false (row_ns rows rate))
time_of (Steps unit rate) rows step line = counted_time unit rate step (time_cell line)

-- the cells of a row that are levels
abbrev pub cells_of : Clock → (line : List ℕ) → List ℕ
cells_of (Times unit) line = after_comma line
cells_of (Rate rate) line = line
cells_of (Steps unit rate) line = after_comma line

-- of a time and levels the first fault
abbrev pub row_by : Result Timed Reason → Result Stand Reason → Result Row Reason
row_by (Err reason) stand = Err reason
row_by (Ok time) (Err reason) = Err reason
row_by (Ok time) (Ok stand) = Ok (record { when = time.when; step = time.step; stand = stand })

-- what a row says of the channels at these places, after those so far
abbrev pub row_of : Plan → (chosen : List ℕ) → Now → (line : List ℕ) → Result Row Reason
row_of plan chosen now line =
    if nat_le 1024 (length line) then Err Long
    else row_by (time_of plan.clock now.rows now.step line) (stand_of plan chosen now.stand (cells_of plan.clock line))
