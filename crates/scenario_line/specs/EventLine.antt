-- What a line after the plant line says.
-- Source: docs/SCENARIOS.md; the order of refusals is that of docs/FAULTS.md.
use Rattle.std.specs.Prelude.{ℕ, ℤ, List, Result, Ok}
use Rattle.serde_json.specs.Data.{Data}
use Rattle.irig_gen.specs.declared.fault.GenFault.{GenFault}
use Rattle.irig_gen.specs.declared.fault.GenFault.TheVariants.{Silent, Stuck, Skew, NoPending, FalsePending, Quality, WrongOffset}
use Rattle.irig_plant.specs.declared.event.Event.TheVariants.{GenEdge, Tick, Carry, Damage, Replay, Raw, Fault, Repair, Restart}
use Rattle.text_faults.specs.declared.refusal.Refusal.{Refusal}
use Rattle.text_faults.specs.declared.refusal.Refusal.TheVariants.{Json, Shape, Value, NoSuchReader}
use Rattle.scenario_line.specs.declared.event_line.Command.{Command}
use Rattle.scenario_line.specs.declared.event_line.Command.TheVariants.{Event, Seconds}
use Rattle.scenario_values.specs.declared.form.Action.{Action}
use Rattle.scenario_values.specs.declared.form.Action.TheVariants as action
use Rattle.scenario_values.specs.declared.form.FaultKind.{FaultKind}
use Rattle.scenario_values.specs.declared.form.FaultKind.TheVariants as fault
use Rattle.scenario_json.specs.Json.{json_of}
use Rattle.text_faults.specs.Refusals.{◌>>=◌, or_else, holds_or}
use Rattle.scenario_values.specs.Forms.{action_of, g, r, at, width, widths, edge, n, edges_by, half_hours_by, leap, q, keys_of}
use Rattle.scenario_json.specs.Keys.{KeyValue}
use Rattle.scenario_json.specs.Fields.{has_form, natural_at, integer_at, leap_at, reader_at, naturals_at}

-- ---- what stands in a line of a form, if it is in range

-- a natural number
abbrev pub natural_or_refusal : KeyValue → Data → Result ℕ Refusal
natural_or_refusal key d = or_else Value (natural_at key d)

-- a number that may be negative
abbrev pub integer_in : KeyValue → Data → Result ℤ Refusal
integer_in key d = or_else Value (integer_at key d)

-- a reader that there is
abbrev pub reader_in : List (List ℕ) → Data → Result ℕ Refusal
reader_in names d = or_else NoSuchReader (reader_at names r d)

-- ---- what a line of each form says: in each the ranges come first and the reader last

-- the fault of a generator
abbrev pub fault_of_form : FaultKind → Data → Result GenFault Refusal
fault_of_form fault.Silent d = Ok Silent
fault_of_form fault.Stuck d = Ok Stuck
fault_of_form fault.Skew d = integer_in edges_by d >>= λ by. Ok (Skew by)
fault_of_form fault.NoPending d = Ok NoPending
fault_of_form fault.FalsePending d =
    or_else Value (leap_at leap d) >>= λ kind. Ok (FalsePending kind)
fault_of_form fault.Quality d = natural_or_refusal q d >>= λ quality. Ok (Quality quality)
fault_of_form fault.WrongOffset d = integer_in half_hours_by d >>= λ by. Ok (WrongOffset by)

-- the event, or the count of seconds
abbrev pub command_of_form : List (List ℕ) → Action → Data → Result Command Refusal
command_of_form names action.Carry d = do
  generator ← natural_or_refusal g d
  reader ← reader_in names d
  Ok (Event (Carry generator reader))
command_of_form names action.Tick d = reader_in names d >>= λ reader. Ok (Event (Tick reader))
command_of_form names action.Step d =
    natural_or_refusal g d >>= λ generator. Ok (Event (GenEdge generator))
command_of_form names action.Seconds d = natural_or_refusal n d >>= λ count. Ok (Seconds count)
command_of_form names action.Damage d = do
  generator ← natural_or_refusal g d
  element ← natural_or_refusal at d
  microseconds ← natural_or_refusal width d
  reader ← reader_in names d
  Ok (Event (Damage generator reader element microseconds))
command_of_form names action.Replay d = do
  generator ← natural_or_refusal g d
  number ← natural_or_refusal edge d
  reader ← reader_in names d
  Ok (Event (Replay generator reader number))
command_of_form names action.Raw d = do
  generator ← natural_or_refusal g d
  microseconds ← or_else Value (naturals_at widths d)
  reader ← reader_in names d
  Ok (Event (Raw generator reader microseconds))
command_of_form names (action.Fault kind) d = do
  generator ← natural_or_refusal g d
  fault ← fault_of_form kind d
  Ok (Event (Fault generator fault))
command_of_form names action.Repair d =
    natural_or_refusal g d >>= λ generator. Ok (Event (Repair generator))
command_of_form names action.Restart d = reader_in names d >>= λ reader. Ok (Event (Restart reader))

-- ---- lines

-- what an object says: types first, then the values by its form
unfoldable pub command_in_object : List (List ℕ) → Data → Result Command Refusal
command_in_object names d = do
  action ← or_else Shape (action_of d)
  formed ← holds_or Shape (has_form (keys_of action) d)
  command_of_form names action d

-- what a line says, by the names of the readers in order
unfoldable pub command_in_line : List (List ℕ) → List ℕ → Result Command Refusal
command_in_line names line = or_else Json (json_of line) >>= command_in_object names
