-- Known lines of version 4 by their bytes, and what they say, so that a wrong definition does not check.
use Rattle.std.proofs.Common.{◌≡◌, ℕ, true, List, [], ◌∷◌, map, Some, None, Ok, Err, pos, neg_ℤ, refl, ap, ◌∙◌, codes}
use Rattle.std.specs.Str.{is_utf8, chars}
use Rattle.std.specs.Float.Numeral.{scan_numeral}
use Rattle.json.specs.Lex.{lex, punctuate}
use Rattle.json.specs.Text.{content, short_escape}
use Rattle.json.specs.Word.{word, after_number}
use Rattle.json.specs.Json as json
use Rattle.serde_json.specs.Data.{Data}
use Rattle.serde_json.specs.Data as value
use Rattle.serde_json.specs.Read.{number_of}
use Rattle.irig_time.specs.Timelines.{times}
use Rattle.irig_time.specs.Tables.{table}
use Rattle.irig_gen.specs.Frames.{gen}
use Rattle.text_faults.specs.declared.refusal.Refusal.TheVariants as refusal
use Rattle.text_faults.specs.Refusals.{◌>>=◌, or_else}
use Rattle.scenario_json.specs.Json.{json_of, text_at, whole_at, items_at, all_of, has_only}
use Rattle.scenario_json.specs.Fields.{has_form, each_item}
use Rattle.scenario_json.specs.Keywords.{parity_of, sense_of, sbs_use_of}
use Rattle.scenario_values.specs.declared.plant_shape.Version.TheVariants.{Three}
use Rattle.scenario_values.specs.Names.{is_name, name_in, are_names, names_in}
use Rattle.scenario_values.specs.PlantShape.{is_generator}
use Rattle.scenario_values.specs.PlantValues.{PlantValues, start_of, rules_of, zone_of, changes_of, generator_of, generators_of, reader_rules_of, reader_of, readers_in, leaps_of, plant_values}
use Rattle.scenario_line.proofs.PlainLines.{seconds_line, seconds_json, start, start_text, start_read, number, generator_data, rules, generator}
use Rattle.irig_simulated.specs.declared.setup.Ticking.TheVariants.{ByWait, ByHand}
use Rattle.irig_station.specs.declared.event.Event.TheVariants.{Pass, Late, Stamp}
use Rattle.scenario_devices.specs.StationShape.{is_device_object, is_station}
use Rattle.scenario_devices.specs.StationValues.{DeviceValues, StationValues, lates_among, late_of, device_values, devices_in, station_values}
use Rattle.scenario_devices.specs.StationLine.{StationPlan, device_refusal, station_in_object, station_in_line}
use Rattle.scenario_devices.specs.StationForms.{station_action_of}
use Rattle.scenario_devices.specs.StationEvents.{event_in_station_object, event_in_station_line}

-- ---- a plant line of two devices, of which the second leaves out what may be left out

abbrev pub station_line : List ℕ
station_line = codes "{\"version\":4,\"start\":\"2016-12-31T12:00:00Z\",\"leaps\":[],\"parity\":\"even\",\"sense\":\"add\",\"sbs\":\"check\",\"generators\":[{\"local\":0},{\"local\":0},{\"local\":0}],\"devices\":[{\"name\":\"r1\",\"lock_after\":2,\"holdover\":60,\"drift\":40,\"gain\":-20,\"counter\":4290000000,\"late\":[0,350,700],\"poll\":0},{\"name\":\"r2\",\"lock_after\":3,\"holdover\":0,\"drift\":100}]}"

abbrev first_data : Data
first_data =
    value.object (value.member (codes "counter") (number 4290000000)
    (value.member (codes "drift") (number 40)
    (value.member (codes "gain") (value.number (value.negative (neg_ℤ (pos 20))))
    (value.member (codes "holdover") (number 60)
    (value.member (codes "late") (value.array (value.item (number 0) (value.item (number 350) (value.item (number 700) value.no_items))))
    (value.member (codes "lock_after") (number 2)
    (value.member (codes "name") (value.string (codes "r1"))
    (value.member (codes "poll") (number 0) value.no_members))))))))

abbrev second_data : Data
second_data =
    value.object (value.member (codes "drift") (number 100)
    (value.member (codes "holdover") (number 0)
    (value.member (codes "lock_after") (number 3)
    (value.member (codes "name") (value.string (codes "r2")) value.no_members))))

abbrev station_data : Data
station_data =
    value.object (value.member (codes "devices") (value.array (value.item first_data (value.item second_data value.no_items)))
    (value.member (codes "generators") (value.array (value.item generator_data (value.item generator_data (value.item generator_data value.no_items))))
    (value.member (codes "leaps") (value.array value.no_items)
    (value.member (codes "parity") (value.string (codes "even"))
    (value.member (codes "sbs") (value.string (codes "check"))
    (value.member (codes "sense") (value.string (codes "add"))
    (value.member (codes "start") (value.string start_text)
    (value.member (codes "version") (number 4) value.no_members))))))))

station_json : json_of station_line ≡ Some station_data
unfolding json_of is_utf8 chars lex punctuate content short_escape word after_number json.value json.items json.members number_of scan_numeral lib.Utf8.encode
station_json = refl

-- ---- its values

abbrev pub first : DeviceValues
first = record {
  reader = record { rules = record { lock_after = 2; holdover = 60 }; until = 0; leaps = [] };
  drift = 40;
  gain = neg_ℤ (pos 20);
  counter = 4290000000;
  late = 0 ∷ 350 ∷ 700 ∷ [];
  ticking = ByHand;
}

abbrev pub second : DeviceValues
second = record {
  reader = record { rules = record { lock_after = 3; holdover = 0 }; until = 0; leaps = [] };
  drift = 100;
  gain = pos 0;
  counter = 0;
  late = 0 ∷ 0 ∷ 0 ∷ [];
  ticking = ByWait;
}

abbrev plant : PlantValues
plant = record { start = start; leaps = []; rules = rules; generators = generator ∷ generator ∷ generator ∷ []; readers = [] }

abbrev values : StationValues
values = record { plant = plant; devices = first ∷ second ∷ [] }

has_start : start_of station_data ≡ Some start
unfolding start_of text_at
has_start = start_read

has_leaps : leaps_of station_data ≡ Some []
unfolding leaps_of items_at
has_leaps = refl

has_rules : rules_of station_data ≡ Some rules
unfolding rules_of text_at parity_of sense_of sbs_use_of
has_rules = refl

has_generators : generators_of Three station_data ≡ Some plant.generators
unfolding generators_of items_at generator_of zone_of changes_of whole_at
has_generators = refl

no_readers : all_of reader_of (readers_in station_data) ≡ Some []
unfolding readers_in items_at
no_readers = refl

has_plant : plant_values Three station_data ≡ Some plant
unfolding plant_values
has_plant = rw (has_start, has_leaps, has_rules, has_generators, no_readers) refl

has_devices : all_of (device_values 3) (devices_in station_data) ≡ Some values.devices
unfolding devices_in items_at device_values late_of lates_among reader_of reader_rules_of whole_at
has_devices = refl

has_values : station_values station_data ≡ Some values
unfolding station_values
has_values = rw (has_plant, has_devices) refl

has_version : whole_at (codes "version") station_data ≡ Some (pos 4)
unfolding whole_at
has_version = refl

has_shape : is_station station_data ≡ true
unfolding is_station is_generator is_device_object has_form has_only each_item items_at
has_shape = refl

has_names : names_in (devices_in station_data) ≡ Ok (codes "r1" ∷ codes "r2" ∷ [])
unfolding names_in devices_in items_at name_in text_at are_names is_name
has_names = refl

-- ---- what it says

abbrev pub plan : StationPlan
plan = record {
  setup = record {
    times = times start [];
    generators = gen generator.zone [] rules 0 None 0 ∷ gen generator.zone [] rules 0 None 0 ∷ gen generator.zone [] rules 0 None 0 ∷ [];
    rules = rules;
    devices = record { rules = first.reader.rules; table = table 0 []; drift_us = 40; gain_us = neg_ℤ (pos 20); counter = 4290000000; late_us = 0 ∷ 350 ∷ 700 ∷ []; ticking = ByHand }
        ∷ record { rules = second.reader.rules; table = table 0 []; drift_us = 100; gain_us = pos 0; counter = 0; late_us = 0 ∷ 0 ∷ 0 ∷ []; ticking = ByWait } ∷ [];
  };
  names = codes "r1" ∷ codes "r2" ∷ [];
}

has_plan : station_in_object station_data ≡ Ok plan
unfolding station_in_object
has_plan = rw (has_version, has_shape, has_values, has_names) refl

pub makes_station : station_in_line station_line ≡ Ok plan
unfolding station_in_line
makes_station = ap (λ o. or_else refusal.Json o >>= station_in_object) station_json ∙ has_plan

-- ---- lines that are refused

abbrev version_data : ℕ → Data
version_data n = value.object (value.member (codes "version") (number n) value.no_members)

-- version 3 is another's, and version 4 has more keys
pub other_versions : (station_in_object (version_data 3) ≡ Err refusal.Version) × (station_in_object (version_data 4) ≡ Err refusal.Shape)
unfolding station_in_object is_station has_form has_only whole_at
other_versions = (refl, refl)

-- a device of such a holdover, with the counter of the first and a table that ends there
abbrev holding : ℕ → ℕ → DeviceValues
holding seconds until = record first { reader = record { rules = record { lock_after = 2; holdover = seconds }; until = until; leaps = [] } }

-- 490,000 us at 40 us a second are 12,250 seconds, two more than the holdover; of a table's fault the
-- device is refused before
pub known_drift : map device_refusal (holding 12248 0 ∷ holding 12249 0 ∷ holding 12249 36524 ∷ []) ≡ None ∷ Some refusal.Drift ∷ Some refusal.TableEnd ∷ []
known_drift = refl

-- ---- events

abbrev late_line : List ℕ
late_line = codes "{\"do\":\"late\",\"g\":1,\"r\":\"r2\",\"us\":1999}"

abbrev late_data : Data
late_data =
    value.object (value.member (codes "do") (value.string (codes "late"))
    (value.member (codes "g") (number 1)
    (value.member (codes "r") (value.string (codes "r2"))
    (value.member (codes "us") (number 1999) value.no_members))))

late_json : json_of late_line ≡ Some late_data
unfolding json_of is_utf8 chars lex punctuate content short_escape word after_number json.value json.items json.members number_of scan_numeral lib.Utf8.encode
late_json = refl

abbrev pub names : List (List ℕ)
names = codes "r1" ∷ codes "r2" ∷ []

pub asks_late : event_in_station_line names late_line ≡ Ok (Late 1 1 1999)
unfolding event_in_station_line event_in_station_object station_action_of text_at whole_at has_form has_only
asks_late = ap (λ o. or_else refusal.Json o >>= event_in_station_object names) late_json

-- two seconds are so many microseconds
pub asks_two : event_in_station_line names seconds_line ≡ Ok (Pass 2000000)
unfolding event_in_station_line event_in_station_object station_action_of text_at whole_at has_form has_only
asks_two = ap (λ o. or_else refusal.Json o >>= event_in_station_object names) seconds_json

abbrev pub stamp_line : List ℕ
stamp_line = codes "{\"do\":\"stamp\",\"r\":\"r1\",\"ago\":4000000}"

abbrev stamp_data : ℕ → Data
stamp_data ago =
    value.object (value.member (codes "ago") (number ago)
    (value.member (codes "do") (value.string (codes "stamp"))
    (value.member (codes "r") (value.string (codes "r1")) value.no_members)))

stamp_json : json_of stamp_line ≡ Some (stamp_data 4000000)
unfolding json_of is_utf8 chars lex punctuate content short_escape word after_number json.value json.items json.members number_of scan_numeral lib.Utf8.encode
stamp_json = refl

pub asks_stamp : event_in_station_line names stamp_line ≡ Ok (Stamp 0 4000000)
unfolding event_in_station_line event_in_station_object station_action_of text_at whole_at has_form has_only
asks_stamp = ap (λ o. or_else refusal.Json o >>= event_in_station_object names) stamp_json

-- a microsecond earlier is out of range
pub too_long_ago : event_in_station_object names (stamp_data 4000001) ≡ Err refusal.Value
unfolding event_in_station_object station_action_of text_at whole_at has_form has_only
too_long_ago = refl

-- generators go on by themselves
pub no_step : event_in_station_object names (value.object (value.member (codes "do") (value.string (codes "step")) (value.member (codes "g") (number 0) value.no_members))) ≡ Err refusal.Shape
unfolding event_in_station_object station_action_of text_at
no_step = refl
