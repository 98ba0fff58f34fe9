-- The objects of a plant line, by their places.
-- Source: docs/SCENARIOS.md.
use Rattle.std.specs.Prelude.{ℕ, Bool, true, false, not, ◌&&◌, ◌||◌, ◌==◌, List, [], length, take, codes, Option, Some, None, option_and_then, unwrap_or, if◌then◌else◌}
use Rattle.std.specs.List.{list_any, slice_get}
use Rattle.std.specs.Str.{bytes_eq}
use Rattle.serde_json.specs.Data.{Data}
use Rattle.serde_json.specs.Find.{get}
use Rattle.scenario_values.specs.declared.plant_shape.Version.{Version}
use Rattle.scenario_values.specs.declared.plant_shape.Version.TheVariants.{Three}
use Rattle.scenario_values.specs.Names.{is_name, name_in, one_to_sixteen}
use Rattle.scenario_values.specs.PlantValues.{is_count}
use Rattle.scenario_devices.specs.StationLine.{has_version_four}
use Rattle.scenario_devices.specs.StationShape.{station_keys, device_keys, late_key}
use Rattle.text_refusal.specs.declared.place.Plant.{Plant}
use Rattle.text_refusal.specs.declared.place.Plant.TheVariants.{Readers, Devices}
use Rattle.scenario_values.specs.PlantShape.{version_of, plant_keys, leap_keys, generator_keys, change_keys, reader_keys, table_keys}
use Rattle.scenario_json.specs.Json.{items_at, whole_at, is_there}
use Rattle.scenario_json.specs.Keys.{KeyValue}
use Rattle.scenario_json.specs.Fields.{has_form}
use Rattle.text_words.specs.declared.path.JsonPath.{JsonPath}
use Rattle.text_words.specs.declared.path.JsonPath.TheVariants.{Line, Leap, Generator, Change, Reader, Table, TableLeap}
use Rattle.text_refusal.specs.Values.{have_values}

-- the i-th item, from 0, of the list at a key
unfoldable pub item_at : List ℕ → ℕ → Data → Option Data
item_at key i d = option_and_then (λ items. slice_get items i) (items_at key d)

-- ---- readers, or devices

-- the version of a plant line; of one that tells none, the last
unfoldable pub version_of_line : Data → Version
version_of_line d = unwrap_or (option_and_then version_of (whole_at (codes "version") d)) Three

-- what a plant line has, by its version
unfoldable pub plant_of_line : Data → Plant
plant_of_line d = if has_version_four d then Devices else Readers (version_of_line d)

-- the key of their list
abbrev pub owners_key : Plant → List ℕ
owners_key (Readers version) = codes "readers"
owners_key Devices = codes "devices"

-- those of a line
unfoldable pub owners_in : Plant → Data → List Data
owners_in plant d = unwrap_or (items_at (owners_key plant) d) []

-- by which version there may be so many generators
abbrev pub counted_as : Plant → Version
counted_as (Readers version) = version
counted_as Devices = Three

-- ---- objects

-- the table of the i-th of them
abbrev pub table_at : Plant → ℕ → Data → Option Data
table_at plant r d = option_and_then (get (codes "table")) (item_at (owners_key plant) r d)

-- the object at a place
unfoldable pub object_at : Plant → JsonPath → Data → Option Data
object_at plant Line d = Some d
object_at plant (Leap i) d = item_at (codes "leaps") i d
object_at plant (Generator g) d = item_at (codes "generators") g d
object_at plant (Change g i) d =
    option_and_then (item_at (codes "changes") i) (item_at (codes "generators") g d)
object_at plant (Reader r) d = item_at (owners_key plant) r d
object_at plant (Table r) d = table_at plant r d
object_at plant (TableLeap r i) d =
    option_and_then (item_at (codes "leaps") i) (table_at plant r d)

-- the keys of a plant line
abbrev pub line_keys : Plant → List KeyValue
line_keys (Readers version) = plant_keys
line_keys Devices = station_keys

-- the keys of a reader, or of a device
abbrev pub owner_keys : Plant → List KeyValue
owner_keys (Readers version) = reader_keys version
owner_keys Devices = device_keys

-- the keys that the object at a place may have
abbrev pub keys_at : Plant → JsonPath → List KeyValue
keys_at plant Line = line_keys plant
keys_at plant (Leap i) = leap_keys
keys_at plant (Generator g) = generator_keys
keys_at plant (Change g i) = change_keys
keys_at plant (Reader r) = owner_keys plant
keys_at plant (Table r) = table_keys
keys_at plant (TableLeap r i) = leap_keys

-- the object there has not its form
unfoldable pub is_misformed : Plant → JsonPath → Data → Bool
is_misformed plant place d =
    is_there (λ o. not (has_form (keys_at plant place) o)) (object_at plant place d)

-- a value in it is not in its range
unfoldable pub is_misvalued : Plant → JsonPath → Data → Bool
is_misvalued plant place d =
    is_there (λ o. not (have_values (keys_at plant place) o)) (object_at plant place d)

-- the line's own object
abbrev pub is_line : JsonPath → Bool
is_line Line = true
is_line _ = false

-- so many generators as the version allows
unfoldable pub has_count : Plant → Data → Bool
has_count plant d =
    is_there (λ items. is_count (counted_as plant) (length items)) (items_at (codes "generators") d)

-- how many generators there are
unfoldable pub generators_in : Data → ℕ
generators_in d = length (unwrap_or (items_at (codes "generators") d) [])

-- a device has at `late` more numbers than there are generators, or fewer
unfoldable pub has_other_lates : ℕ → Data → Bool
has_other_lates generators device =
    is_there (λ items. not (length items == generators)) (items_at late_key.name device)

-- so it is at a place
unfoldable pub is_mislate : JsonPath → Data → Bool
is_mislate (Reader r) d =
    is_there (has_other_lates (generators_in d)) (item_at (codes "devices") r d)
is_mislate _ d = false

-- a value of the object there is not in its range, the line has too few generators or too many, or
-- a device has not a number for each
unfoldable pub is_beyond : Plant → JsonPath → Data → Bool
is_beyond plant place d =
    is_misvalued plant place d
    || ((is_line place && not (has_count plant d)) || is_mislate place d)

-- ---- names

-- the i-th of them has no name, or one that one before it has
unfoldable pub is_unnamed : List Data → ℕ → Data → Bool
is_unnamed readers i reader =
    not (is_name (name_in reader))
    || list_any (λ other. bytes_eq (name_in other) (name_in reader)) (take i readers)

-- so it is at a place, or there are none, or more than 16
unfoldable pub is_misnamed : Plant → JsonPath → Data → Bool
is_misnamed plant (Reader i) d =
    is_there (λ reader. is_unnamed (owners_in plant d) i reader) (slice_get (owners_in plant d) i)
is_misnamed plant Line d = not (one_to_sixteen (length (owners_in plant d)))
is_misnamed plant _ d = false
