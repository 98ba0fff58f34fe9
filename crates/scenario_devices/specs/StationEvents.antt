-- What a line after a plant line of version 4 says.
-- Source: docs/SCENARIOS.md, a plant of devices; the order of refusals is that of docs/FAULTS.md.
use Rattle.std.specs.Prelude.{ℕ, ◌*◌, ◌≤◌, List, Result, Ok, ⊤}
use Rattle.serde_json.specs.Data.{Data}
use Rattle.text_faults.specs.declared.refusal.Refusal.{Refusal}
use Rattle.text_faults.specs.declared.refusal.Refusal.TheVariants.{Json, Shape}
use Rattle.text_faults.specs.Refusals.{or_else, holds_or, ◌>>=◌}
use Rattle.scenario_json.specs.Json.{json_of}
use Rattle.scenario_json.specs.Fields.{has_form}
use Rattle.scenario_values.specs.Forms.{g, width, n}
use Rattle.scenario_line.specs.EventLine.{natural_or_refusal, reader_in, fault_of_form}
use Rattle.irig_station.specs.declared.event.Event.{Event}
use Rattle.irig_station.specs.declared.event.Event.TheVariants.{Pass, Fault, Repair, Pull, Plug, Late, Pulse, Tick, Restart, Stamp}
use Rattle.scenario_devices.specs.declared.station_form.StationAction.{StationAction}
use Rattle.scenario_devices.specs.declared.station_form.StationAction.TheVariants as action
use Rattle.scenario_devices.specs.StationShape.{most_late}
use Rattle.scenario_devices.specs.StationForms.{station_action_of, station_keys_of, passing_us, lateness_us, ago_key}

-- so many seconds as an event
abbrev pub seconds_pass : ℕ → Event
seconds_pass count = Pass (count * 1000000)

-- the event of a form: in each the ranges come first and the device last
abbrev pub station_event_of : List (List ℕ) → StationAction → Data → Result Event Refusal
station_event_of names action.Pass d =
    natural_or_refusal passing_us d >>= λ microseconds. Ok (Pass microseconds)
station_event_of names action.Seconds d =
    natural_or_refusal n d >>= λ count. Ok (seconds_pass count)
station_event_of names (action.Fault kind) d = do
  generator ← natural_or_refusal g d
  fault ← fault_of_form kind d
  Ok (Fault generator fault)
station_event_of names action.Repair d =
    natural_or_refusal g d >>= λ generator. Ok (Repair generator)
station_event_of names action.Pull d = do
  generator ← natural_or_refusal g d
  device ← reader_in names d
  Ok (Pull generator device)
station_event_of names action.Plug d = do
  generator ← natural_or_refusal g d
  device ← reader_in names d
  Ok (Plug generator device)
station_event_of names action.Late d = do
  generator ← natural_or_refusal g d
  microseconds ← natural_or_refusal lateness_us d
  device ← reader_in names d
  Ok (Late generator device microseconds)
station_event_of names action.Pulse d = do
  generator ← natural_or_refusal g d
  microseconds ← natural_or_refusal width d
  device ← reader_in names d
  Ok (Pulse generator device microseconds)
station_event_of names action.Tick d = reader_in names d >>= λ device. Ok (Tick device)
station_event_of names action.Restart d = reader_in names d >>= λ device. Ok (Restart device)
station_event_of names action.Stamp d = do
  microseconds ← natural_or_refusal ago_key d
  device ← reader_in names d
  Ok (Stamp device microseconds)

-- what an object says: types first, then the values by its form
unfoldable pub event_in_station_object : List (List ℕ) → Data → Result Event Refusal
event_in_station_object names d = do
  action ← or_else Shape (station_action_of d)
  formed ← holds_or Shape (has_form (station_keys_of action) d)
  station_event_of names action d

-- what a line says, by the names of the devices in order
unfoldable pub event_in_station_line : List (List ℕ) → List ℕ → Result Event Refusal
event_in_station_line names line = or_else Json (json_of line) >>= event_in_station_object names

-- its numbers are in range
abbrev pub IsStationEvent : Event → Type 0
IsStationEvent (Pass us) = us ≤ 100000000000
IsStationEvent (Late g r us) = us ≤ most_late
IsStationEvent (Stamp r ago) = ago ≤ 4000000
IsStationEvent _ = ⊤
