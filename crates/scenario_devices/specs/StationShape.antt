-- The objects of a plant line of version 4: which keys stand in each, and what may stand at a key.
-- Source: docs/SCENARIOS.md, a plant of devices.
use Rattle.std.specs.Prelude.{pos, neg_ℤ, ℕ, Bool, ◌&&◌, List, [], ◌∷◌, ◌++◌, codes}
use Rattle.serde_json.specs.Data.{Data}
use Rattle.serde_json.specs.Find.{get}
use Rattle.scenario_json.specs.declared.key.Kind.TheVariants as kind
use Rattle.scenario_json.specs.Keys.{KeyValue, key, optional_key}
use Rattle.scenario_json.specs.Fields.{has_form, each_item}
use Rattle.scenario_values.specs.PlantShape.{keys_with, later_reader_keys, is_leap, is_generator, is_table_if}

-- ---- the keys that have a range

-- how many microseconds a second a device's counter may be wrong by its setting, 0 to 100
abbrev pub drift_key : KeyValue
drift_key = key (codes "drift") (kind.Natural 0 100)

-- how many microseconds its counter truly gains in each second, -1000 to 1000
abbrev pub gain_key : KeyValue
gain_key = optional_key (codes "gain") (kind.Integer (neg_ℤ (pos 1000)) (pos 1000))

-- what its counter shows at edge 0
abbrev pub counter_key : KeyValue
counter_key = optional_key (codes "counter") (kind.Natural 0 4294967295)

-- how late a line is at most, in microseconds
abbrev pub most_late : ℕ
most_late = 1999

-- how late the line of each generator is
abbrev pub late_key : KeyValue
late_key = optional_key (codes "late") (kind.Naturals 5 most_late)

-- after how many microseconds a device is ticked again
abbrev pub poll_key : KeyValue
poll_key = optional_key (codes "poll") (kind.Natural 0 1740000000)

-- ---- the objects, by their keys

-- of a plant line, which has devices in place of readers
abbrev pub station_keys : List KeyValue
station_keys = keys_with (key (codes "devices") kind.List)

-- of a device: those of a reader that may have a table, and its own
abbrev pub device_keys : List KeyValue
device_keys =
    later_reader_keys ++ (drift_key ∷ gain_key ∷ counter_key ∷ late_key ∷ poll_key ∷ [])

-- ---- the objects

-- a device
unfoldable pub is_device_object : Data → Bool
is_device_object d = has_form device_keys d && is_table_if (get (codes "table") d)

-- a plant line
unfoldable pub is_station : Data → Bool
is_station d =
    has_form station_keys d
    && (each_item (codes "leaps") is_leap d
    && (each_item (codes "generators") is_generator d
    && each_item (codes "devices") is_device_object d))
