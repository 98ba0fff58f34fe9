-- The values of a plant line of version 4, if its shape is right.
-- Source: docs/SCENARIOS.md, a plant of devices.
use Rattle.std.specs.Prelude.{ℕ, ℤ, pos, ◌==◌, if◌then◌else◌, List, [], length, replicate, codes, Option, Some, None, option_map, unwrap_or}
use Rattle.serde_json.specs.Data.{Data}
use Rattle.serde_json.specs.Find.{get}
use Rattle.scenario_json.specs.Json.{items_at, all_of}
use Rattle.scenario_json.specs.Fields.{natural_at, integer_at, natural_in}
use Rattle.scenario_values.specs.declared.plant_shape.Version.TheVariants.{Three}
use Rattle.scenario_values.specs.PlantValues.{ReaderValues, PlantValues, reader_of, plant_values, ◌>>=◌}
use Rattle.irig_simulated.specs.declared.setup.Ticking.{Ticking}
use Rattle.irig_simulated.specs.declared.setup.Ticking.TheVariants.{ByWait, Each, ByHand}
use Rattle.scenario_devices.specs.StationShape.{drift_key, gain_key, counter_key, late_key, most_late, poll_key}

-- ---- the parts of a device that may be left out

-- what is found of a value, or this if there is none
abbrev pub left_out_or : {A : Type 0} → A → Option Data → Option A → Option A
left_out_or x None found = Some x
left_out_or x (Some d) found = found

-- how much its counter gains: nothing, if nothing is said
abbrev pub gain_of : Data → Option ℤ
gain_of d = left_out_or (pos 0) (get gain_key.name d) (integer_at gain_key d)

-- what its counter shows at edge 0: 0, if nothing is said
abbrev pub counter_of : Data → Option ℕ
counter_of d = left_out_or 0 (get counter_key.name d) (natural_at counter_key d)

-- as many numbers as there are generators
unfoldable pub lates_among : ℕ → List Data → Option (List ℕ)
lates_among generators ds =
    if length ds == generators then all_of (natural_in most_late) ds else None

-- how late its lines are: none is, if nothing is said
unfoldable pub late_of : ℕ → Data → Option (List ℕ)
late_of generators d =
    left_out_or (replicate generators 0) (get late_key.name d)
    (do
      items ← items_at late_key.name d
      lates_among generators items)

-- ticked each so often, or at 0 by hand
abbrev pub polled_each : ℕ → Ticking
polled_each us = if us == 0 then ByHand else Each us

-- when it is ticked: as its wait says, if nothing is said
abbrev pub ticking_of : Data → Option Ticking
ticking_of d =
    left_out_or ByWait (get poll_key.name d) (option_map polled_each (natural_at poll_key d))

-- ---- a device

-- a device: what it has as a reader, and its own
pub record DeviceValues : Type 0 where
  pub reader : ReaderValues
  pub drift : ℕ
  pub gain : ℤ
  pub counter : ℕ
  pub late : List ℕ
  pub ticking : Ticking

-- the values of a device to which so many generators lead
unfoldable pub device_values : ℕ → Data → Option DeviceValues
device_values generators d = do
  reader ← reader_of d
  drift ← natural_at drift_key d
  gain ← gain_of d
  counter ← counter_of d
  late ← late_of generators d
  ticking ← ticking_of d
  Some (record {
    reader = reader;
    drift = drift;
    gain = gain;
    counter = counter;
    late = late;
    ticking = ticking;
  })

-- the objects of the devices
unfoldable pub devices_in : Data → List Data
devices_in d = unwrap_or (items_at (codes "devices") d) []

-- ---- the line

-- what stands in a plant line, but for the names; as a plant it has no readers
pub record StationValues : Type 0 where
  pub plant : PlantValues
  pub devices : List DeviceValues

-- the values of all parts: those of the devices, and all others as in version 3
unfoldable pub station_values : Data → Option StationValues
station_values d = do
  plant ← plant_values Three d
  devices ← all_of (device_values (length plant.generators)) (devices_in d)
  Some (record { plant = plant; devices = devices })
