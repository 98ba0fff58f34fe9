-- The place that a reason names is one at which the line is refused so.
-- Source: docs/FAULTS.md; this project's profile.
use Rattle.std.specs.Prelude.{◌≡◌, ℕ, ◌≤◌, ◌⊎◌, Bool, true, false, not, nat_le, nat_lt, is_some, List, length, Option, Some, option_map}
use Rattle.std.specs.List.{slice_get}
use Rattle.serde_json.specs.Data.{Data}
use Rattle.text_faults.specs.declared.refusal.Refusal.{Refusal}
use Rattle.text_faults.specs.declared.refusal.Refusal.TheVariants as refusal
use Rattle.scenario_json.specs.Json.{json_of, is_there}
use Rattle.scenario_json.specs.Fields.{has_form, natural_at, reader_at}
use Rattle.scenario_json.specs.Keys.{KeyValue}
use Rattle.scenario_values.specs.Forms.{action_of, keys_of, g, r, edge}
use Rattle.scenario_values.specs.PlantValues.{PlantValues, plant_values}
use Rattle.scenario_devices.specs.StationForms.{station_action_of, station_keys_of}
use Rattle.scenario_devices.specs.StationValues.{StationValues, station_values}
use Rattle.text_refusal.specs.declared.place.Plant.{Plant}
use Rattle.text_refusal.specs.declared.place.Plant.TheVariants.{Readers, Devices}
use Rattle.text_words.specs.declared.path.JsonPath.{JsonPath}
use Rattle.text_words.specs.declared.path.JsonPath.TheVariants.{Line}
use Rattle.text_refusal.specs.Values.{have_values}
use Rattle.text_refusal.specs.Places.{plant_of_line, is_misformed, is_beyond, is_misnamed}
use Rattle.text_refusal.specs.Refused.{refusal_at, station_refusal_at}

-- ---- a plant line

-- the values that it gives are refused so at this place
abbrev pub AreRefusedAt : Plant → Refusal → Data → JsonPath → Type 0
AreRefusedAt (Readers version) k d place =
    (v : PlantValues) × (plant_values version d ≡ Some v) × (refusal_at v place ≡ Some k)
AreRefusedAt Devices k d place =
    (v : StationValues) × (station_values d ≡ Some v) × (station_refusal_at v place ≡ Some k)

-- the form, a value or a name there is wrong, or what the values make; a version and a start are the
-- line's own
abbrev pub IsPlantRefusedAt : Refusal → Data → JsonPath → Type 0
IsPlantRefusedAt refusal.Shape d place = is_misformed (plant_of_line d) place d ≡ true
IsPlantRefusedAt refusal.Value d place = is_beyond (plant_of_line d) place d ≡ true
IsPlantRefusedAt refusal.Names d place = is_misnamed (plant_of_line d) place d ≡ true
IsPlantRefusedAt refusal.Version d place = place ≡ Line
IsPlantRefusedAt refusal.BadStart d place = place ≡ Line
IsPlantRefusedAt k d place = AreRefusedAt (plant_of_line d) k d place

-- ---- a further line, of a plant with these readers, whose generators are at these edges

-- which keys it may have, by what it asks for, if it asks for something; of devices so
abbrev pub event_keys : (has_devices : Bool) → Data → Option (List KeyValue)
event_keys false d = option_map keys_of (action_of d)
event_keys true d = option_map station_keys_of (station_action_of d)

-- it has the form of what it asks for
unfoldable pub has_event_form : (has_devices : Bool) → Data → Bool
has_event_form has_devices d = is_there (λ keys. has_form keys d) (event_keys has_devices d)

-- each value is in its range
unfoldable pub has_event_values : (has_devices : Bool) → Data → Bool
has_event_values has_devices d = is_there (λ keys. have_values keys d) (event_keys has_devices d)

-- there is such a generator
unfoldable pub has_generator : List ℕ → Data → Bool
has_generator edges d = is_there (λ n. nat_lt n (length edges)) (natural_at g d)

-- its generator has reached the edge
unfoldable pub has_reached : List ℕ → Data → Bool
has_reached edges d =
    is_there (λ n. is_there (λ wanted. is_there (λ at. nat_le wanted at) (slice_get edges n))
    (natural_at edge d)) (natural_at g d)

-- the line is refused so
abbrev pub is_event_refused : (has_devices : Bool) → Refusal → List (List ℕ) → List ℕ → Data → Bool
is_event_refused has_devices refusal.Shape names edges d = not (has_event_form has_devices d)
is_event_refused has_devices refusal.Value names edges d = not (has_event_values has_devices d)
is_event_refused has_devices refusal.NoSuchReader names edges d =
    not (is_some (reader_at names r d))
is_event_refused has_devices refusal.NoSuchGenerator names edges d = not (has_generator edges d)
is_event_refused has_devices refusal.FutureReplay names edges d = not (has_reached edges d)
is_event_refused has_devices _ names edges d = false

-- ---- a line

-- before there are names it is a plant line, else a further one, of which the place is its own object
abbrev pub IsRefusedAt : (has_devices : Bool) → Refusal → List (List ℕ) → List ℕ → Data → JsonPath
    → Type 0
IsRefusedAt has_devices k names edges d place =
    ((length names ≡ 0) × IsPlantRefusedAt k d place)
    ⊎ ((1 ≤ length names) × (is_event_refused has_devices k names edges d ≡ true)
    × (place ≡ Line))

-- the line is the JSON of such a value
pub record NamesPlace (has_devices : Bool) (k : Refusal) (names : List (List ℕ))
    (edges line : List ℕ) (place : JsonPath) : Type 0 where
  pub value : Data
  pub json : json_of line ≡ Some value
  pub refused : IsRefusedAt has_devices k names edges value place
