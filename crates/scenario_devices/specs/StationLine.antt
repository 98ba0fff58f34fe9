-- What a plant line of version 4 says: its station and the names of its devices, or why it is
-- refused.
-- Source: docs/SCENARIOS.md, a plant of devices; the order of refusals is that of docs/FAULTS.md.
use Rattle.std.specs.Prelude.{◌≡◌, ◌⊎◌, ◌≤◌, ◌≤ℤ◌, ℕ, ℤ, pos, neg_ℤ, negsuc, Bool, false, ◌==◌, List, ◌∷◌, ◌++◌, length, All, map, codes, string_bytes, Option, option_map, Result, Ok}
use Rattle.std.specs.Option.{option_or}
use Rattle.serde_json.specs.Data.{Data}
use Rattle.serde_json.specs.Find.{as_object}
use Rattle.irig_time.specs.declared.rules.Rules.{Rules}
use Rattle.irig_time.specs.Timelines.{TimelineValue, times}
use Rattle.irig_time.specs.Tables.{TableValue, table}
use Rattle.irig_gen.specs.Frames.{GeneratorValue}
use Rattle.irig_reader.specs.declared.rules.ReaderRules.{ReaderRules}
use Rattle.irig_reader.specs.Rules.{IsReaderRules}
use Rattle.irig_lines.specs.declared.setup.ClockFault.{ClockFault}
use Rattle.irig_lines.specs.Refusals.{clock_fault}
use Rattle.irig_simulated.specs.Setups.{DevicePlan}
use Rattle.irig_station.specs.StationSetups.{StationSetup}
use Rattle.irig_simulated.specs.declared.setup.Ticking.{Ticking}
use Rattle.text_faults.specs.declared.refusal.Refusal.{Refusal}
use Rattle.text_faults.specs.declared.refusal.Refusal.TheVariants.{Json, Shape, Value, Version, Drift}
use Rattle.text_faults.specs.Refusals.{or_else, holds_or, ◌>>=◌}
use Rattle.scenario_json.specs.Json.{json_of, whole_at, is_there}
use Rattle.scenario_values.specs.Names.{names_in}
use Rattle.scenario_line.specs.PlantLine.{timeline_refusal, generator_refusal, reader_refusal, first_of, generator_with, refused_or}
use Rattle.scenario_devices.specs.declared.station_line.BuiltStation.{BuiltStation}
use Rattle.scenario_devices.specs.Setups.{IsTicking, AreDevicesInRange}
use Rattle.scenario_devices.specs.StationShape.{most_late, is_station}
use Rattle.scenario_devices.specs.StationValues.{DeviceValues, StationValues, station_values, devices_in}

-- ---- the version

-- the one with devices
abbrev pub is_four : ℤ → Bool
is_four (pos n) = n == 4
is_four (negsuc n) = false

-- it is the version of this value
abbrev pub has_version_four : Data → Bool
has_version_four d = is_there is_four (whole_at (codes "version") d)

-- the line is JSON of that version; any other is none of a station, whatever it says
unfoldable pub is_station_line : List ℕ → Bool
is_station_line line = is_there has_version_four (json_of line)

-- ---- what is refused of the values

-- a counter that could not count to the end of the holdover
abbrev pub of_clock : ClockFault → Refusal
of_clock fault = Drift

-- of a device: its table, else its counter, of which it learns nothing
abbrev pub device_refusal : DeviceValues → Option Refusal
device_refusal v =
    option_or (reader_refusal v.reader)
    (option_map of_clock (clock_fault v.reader.rules v.drift 0))

-- of the timeline, else of the generators in order, else of the devices in order
abbrev pub station_refusal : StationValues → Option Refusal
station_refusal v =
    first_of (timeline_refusal v.plant
    ∷ (map generator_refusal v.plant.generators ++ map device_refusal v.devices))

-- ---- what is made of the values

-- what a device is made of, by its values
abbrev pub device_with : DeviceValues → DevicePlan
device_with v = record {
  rules = v.reader.rules;
  table = table v.reader.until v.reader.leaps;
  drift_us = v.drift;
  gain_us = v.gain;
  counter = v.counter;
  late_us = v.late;
  ticking = v.ticking;
}

-- the timeline, the generators and the devices
abbrev pub station_with : StationValues → StationSetup
station_with v = record {
  times = times v.plant.start v.plant.leaps;
  generators = map (generator_with v.plant.rules) v.plant.generators;
  rules = v.plant.rules;
  devices = map device_with v.devices;
}

-- ---- the line

-- what a station is made of, and the names of its devices
pub record StationPlan : Type 0 where
  pub setup : StationSetup
  pub names : List (List ℕ)

-- of a line's value
unfoldable pub station_in_object : Data → Result StationPlan Refusal
station_in_object d = do
  ms ← or_else Shape (as_object d)
  number ← or_else Shape (whole_at (codes "version") d)
  known ← holds_or Version (is_four number)
  shaped ← holds_or Shape (is_station d)
  values ← or_else Value (station_values d)
  names ← names_in (devices_in d)
  setup ← refused_or (station_refusal values) (station_with values)
  Ok (record { setup = setup; names = names })

-- of a line, by its bytes
unfoldable pub station_in_line : List ℕ → Result StationPlan Refusal
station_in_line line = do
  d ← or_else Json (json_of line)
  station_in_object d

-- ---- answers

-- what is made of a line
abbrev pub station_setup : BuiltStation → StationSetup
station_setup s = record {
  times = s.timeline;
  generators = s.generators.items;
  rules = s.rules;
  devices = s.devices.items;
}

-- the same with the names
abbrev pub station_of : BuiltStation → StationPlan
station_of s = record { setup = station_setup s; names = map string_bytes s.names.keys }

-- ---- ranges

-- each device is as a device may be to which all generators lead
abbrev pub HasDevices : BuiltStation → Type 0
HasDevices s = AreDevicesInRange (length s.generators.items) s.devices.items

-- the numbers of a device to which so many generators lead
pub record IsDeviceValues (generators : ℕ) (v : DeviceValues) : Type 0 where
  pub rules : IsReaderRules v.reader.rules
  pub drift : v.drift ≤ 100
  pub slowest : neg_ℤ (pos 1000) ≤ℤ v.gain
  pub fastest : v.gain ≤ℤ pos 1000
  pub lines : length v.late ≡ generators
  pub late : All (λ us. us ≤ most_late) v.late
  pub ticking : IsTicking v.ticking

-- three or five generators and 1 to 16 devices
pub record AreStationValues (v : StationValues) : Type 0 where
  pub generators : (length v.plant.generators ≡ 3) ⊎ (length v.plant.generators ≡ 5)
  pub least : 1 ≤ length v.devices
  pub most : length v.devices ≤ 16
  pub range : All (IsDeviceValues (length v.plant.generators)) v.devices
