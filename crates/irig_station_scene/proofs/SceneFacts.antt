-- Known lines of version 4 by their bytes, and the scenes that they leave.
use Rattle.std.proofs.Common.{◌≡◌, ℕ, List, [], ◌∷◌, Some, Ok, Err, refl, ap, codes}
use Rattle.std.specs.Str.{is_utf8, chars}
use Rattle.std.specs.Float.Numeral.{scan_numeral}
use Rattle.json.specs.Lex.{lex, punctuate}
use Rattle.json.specs.Text.{content, short_escape}
use Rattle.json.specs.Word.{word, after_number}
use Rattle.json.specs.Json as json
use Rattle.serde_json.specs.Data.{Data}
use Rattle.serde_json.specs.Data as value
use Rattle.serde_json.specs.Read.{number_of}
use Rattle.irig_time.specs.Timelines.{second_at, times}
use Rattle.text_faults.specs.declared.refusal.Refusal.TheVariants as refusal
use Rattle.text_faults.specs.Refusals.{◌>>=◌, or_else}
use Rattle.scenario_json.specs.Json.{json_of, text_at, whole_at, has_only}
use Rattle.scenario_json.specs.Fields.{has_form}
use Rattle.irig_station.specs.declared.event.Event.TheVariants.{Pass, Repair, Stamp}
use Rattle.irig_station.specs.StationSetups.{station_setup}
use Rattle.scenario_devices.specs.StationForms.{station_action_of}
use Rattle.scenario_devices.specs.StationEvents.{event_in_station_object, event_in_station_line}
use Rattle.scenario_devices.proofs.StandardFacts.{names, plan, stamp_line, station_line, makes_station, asks_stamp}
use Rattle.irig_station_scene.specs.StationScenes.{StationScene, event_in_scene, next_in_scene, station_begun, station_scene, station_scenario}

abbrev new : StationScene
new = station_scene plan []

-- the plant line of two devices begins a scene
begins_new : station_scenario.begin station_line ≡ Ok new
begins_new = ap station_begun makes_station

-- ---- refused lines

-- of a device that is none of these two: nothing has happened
abbrev tick_line : List ℕ
tick_line = codes "{\"do\":\"tick\",\"r\":\"r3\"}"

abbrev tick_data : Data
tick_data =
    value.object (value.member (codes "do") (value.string (codes "tick"))
    (value.member (codes "r") (value.string (codes "r3")) value.no_members))

tick_json : json_of tick_line ≡ Some tick_data
unfolding json_of is_utf8 chars lex punctuate content short_escape word after_number json.value json.items json.members number_of scan_numeral lib.Utf8.encode
tick_json = refl

asks_no_device : event_in_station_line names tick_line ≡ Err refusal.NoSuchReader
unfolding event_in_station_line event_in_station_object station_action_of text_at whole_at has_form has_only
asks_no_device = ap (λ o. or_else refusal.Json o >>= event_in_station_object names) tick_json

no_device : station_scenario.next new tick_line ≡ record { scene = new; refusal = Some refusal.NoSuchReader }
no_device = ap (next_in_scene new) asks_no_device

-- of an instant before edge 0: the event is one of the scene's
too_early : station_scenario.next new stamp_line ≡ record { scene = station_scene plan (Stamp 0 4000000 ∷ []); refusal = Some refusal.BeforeStart }
too_early = ap (next_in_scene new) asks_stamp

-- ---- refused events

-- there are three generators
no_source : event_in_scene new (Repair 3) ≡ record { scene = station_scene plan (Repair 3 ∷ []); refusal = Some refusal.NoSuchGenerator }
no_source = refl

-- the last second that is served, without devices
abbrev last : StationScene
last = station_scene (record { setup = station_setup (times (record { day = 36523; sod = 86399 }) []) [] plan.setup.rules []; names = [] }) []

years_end : (event_in_scene last (Pass 1000001)).refusal ≡ Some refusal.EndOfYears
unfolding second_at
years_end = refl
