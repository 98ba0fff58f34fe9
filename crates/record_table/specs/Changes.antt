-- The levels that a table says, one after another.
-- Source: this project's profile: levels are said where a chosen channel changes, once for each time. Times are
-- counted from the first row, if that stands at a time below 0, and else from 0.
use Rattle.std.specs.Prelude.{ℕ, ◌+◌, ◌-◌, true, false, ◌&&◌, if◌then◌else◌, List, [], ◌∷◌, ◌++◌, Option, Some, None, Result, Ok, Err, IsSome, nat_eq, nat_le, nat_lt, ⊤}
use Rattle.std.specs.Option.{is_some}
use Rattle.record_levels.specs.declared.levels.Levels.{Levels}
use Rattle.record_levels.specs.declared.limits.TimeFault.{TimeFault}
use Rattle.record_levels.specs.declared.limits.TimeFault.TheVariants.{Back, Beyond}
use Rattle.record_levels.specs.Limits.{end_ns, time_fault}
use Rattle.record_text.specs.Lines.{Line, next_number}
use Rattle.record_table.specs.declared.row.Plan.{Plan}
use Rattle.record_table.specs.declared.row.Reason.{Reason}
use Rattle.record_table.specs.declared.row.Reason.TheVariants.{NoRow, Time}
use Rattle.record_table.specs.declared.row.Row.{Row}
use Rattle.record_table.specs.declared.when.When.{When}
use Rattle.record_table.specs.declared.when.When.TheVariants.{After, Before}
use Rattle.record_table.specs.declared.now.Fault.{Fault}
use Rattle.record_table.specs.declared.now.Now.{Now}
use Rattle.record_table.specs.declared.now.Step.{Step}
use Rattle.record_table.specs.declared.now.Step.TheVariants.{Goes, Says, Refuses}
use Rattle.record_cells.specs.Remarks.{is_remark}
use Rattle.record_table.specs.Rows.{row_of}
use Rattle.record_table.specs.Stands.{no_stand}

-- what a table says: levels, why it is refused, or the time at which it ends
pub data Said : Type 0 where
  Change : Levels → Said
  Refused : Fault → Said
  Ends : ℕ → Said

-- what is read of rows: for what, on which line the names stand, and the places of the chosen ones
pub record Reading : Type 0 where
  pub plan : Plan
  pub above : ℕ
  pub chosen : List ℕ

-- before the first row
abbrev pub start : Now
start = record { rows = 0; step = 0; start_ns = 0; stand = no_stand; time_ns = 0; high = 0; is_due = false; levels_ns = None }

-- a line is refused
abbrev pub refusal : (line : ℕ) → Reason → Fault
refusal line reason = record { line = line; reason = reason }

-- the levels as they stand, with their time
abbrev pub levels_of : Now → Levels
levels_of now = record { time_ns = now.time_ns; high = now.high }

-- the levels of this time, if they are still to be said
abbrev pub due : Now → Option Levels
due now = if now.is_due then Some (levels_of now) else None

-- ---- times

-- how long before the time of 0 a recording begins whose first row is then
abbrev pub start_by : When → ℕ
start_by (Before time) = time
start_by (After time) = 0

-- a row more, which may be the first
abbrev pub counted : Now → Row → Now
counted now row = record now {
  rows = next_number now.rows;
  step = row.step;
  stand = row.stand;
  start_ns = if nat_eq now.rows 0 then start_by row.when else now.start_ns;
}

-- how long after the beginning a time is, if that is below 1,000 hours
abbrev pub since : (start : ℕ) → When → Result ℕ TimeFault
since start (Before time) = if nat_le time start then Ok (start - time) else Err Back
since start (After time) = if nat_lt (start + time) end_ns then Ok (start + time) else Err Beyond

-- ---- a row

-- the levels are these: they are due, unless they are those of the row before
abbrev pub with_high : Now → (high : ℕ) → Now
with_high now high =
    if is_some now.levels_ns && nat_eq now.high high then now
    else record now { high = high; is_due = true; levels_ns = Some now.time_ns }

-- a later time says the levels of the time before, if they are due; then the levels are these
abbrev pub gone_on : Now → (high next : ℕ) → Step
gone_on now high next =
    if now.is_due && nat_lt now.time_ns next
    then Says (levels_of now) (with_high (record now { time_ns = next; is_due = false }) high)
    else Goes (with_high (record now { time_ns = next }) high)

-- a time refuses the table by its fault; without one it goes on there
abbrev pub heard_at : Now → (line high next : ℕ) → Option TimeFault → Step
heard_at now line high next (Some fault) = Refuses (refusal line (Time fault))
heard_at now line high next None = gone_on now high next

-- so many nanoseconds after the beginning
abbrev pub heard_since : Now → (line high : ℕ) → Result ℕ TimeFault → Step
heard_since now line high (Err fault) = Refuses (refusal line (Time fault))
heard_since now line high (Ok next) = heard_at now line high next (time_fault now.time_ns now.levels_ns next)

-- what a row on a line makes of the levels
abbrev pub heard : Now → (line : ℕ) → Result Row Reason → Step
heard now line (Err reason) = Refuses (refusal line reason)
heard now line (Ok row) =
    heard_since (counted now row) line row.stand.high (since (counted now row).start_ns row.when)

-- what a line makes of the levels: a remark nothing
abbrev pub step : Reading → Now → Line → Step
step reading now line =
    if is_remark line.text then Goes now
    else heard now line.number (row_of reading.plan reading.chosen now line.text)

-- a step that says levels leaves some
abbrev pub HasLevels : Step → Type 0
HasLevels (Goes now) = ⊤
HasLevels (Says levels now) = IsSome now.levels_ns
HasLevels (Refuses fault) = ⊤

-- ---- the whole

-- levels, if there are some
abbrev pub said : Option Levels → List Said
said None = []
said (Some levels) = Change levels ∷ []

-- what a step says, and then what is said from there on, unless it refuses
abbrev pub said_by : Step → (others : Now → List Said) → List Said
said_by (Goes now) others = others now
said_by (Says levels now) others = Change levels ∷ others now
said_by (Refuses fault) others = Refused fault ∷ []

-- what is said after the last line: the last levels, and the time of the last row. Without a row it is refused
abbrev pub ended : (above : ℕ) → Now → List Said
ended above now =
    if is_some now.levels_ns then said (due now) ++ Ends now.time_ns ∷ []
    else Refused (refusal above NoRow) ∷ []

-- what lines say
abbrev pub said_from : Reading → Now → List Line → List Said
said_from reading now [] = ended reading.above now
said_from reading now (line ∷ lines) = said_by (step reading now line) (λ next. said_from reading next lines)

-- what the lines below a head say
abbrev pub changes_of : Reading → List Line → List Said
changes_of reading lines = said_from reading start lines
