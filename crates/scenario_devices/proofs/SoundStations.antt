-- What a plant line of version 4 that is not refused says of its station.
use Rattle.std.proofs.Common.{◌≡◌, ◌≤◌, ◌≤ℤ◌, ℕ, ℤ, pos, negsuc, neg_ℤ, Bool, true, false, cond, List, length, map, All, Option, Some, None, Result, Ok, Err, refl, sym, ap, ◌∙◌, subst, arith, rules, codes}
use Rattle.std.specs.Prelude.{unsigned_abs}
use Rattle.std.specs.Option.{option_or}
use Rattle.std.proofs.lemmas.List.{length-map}
use Rattle.std.proofs.lemmas.List.Elements.{All-weaker}
use Rattle.serde_json.specs.Data.{Data, Members}
use Rattle.serde_json.specs.Find.{as_object}
use Rattle.irig_time.specs.TimelineFaults.{IsTimeline}
use Rattle.irig_simulated.specs.Setups.{DevicePlan}
use Rattle.irig_simulated.specs.Kinds.{IsDevicePlan}
use Rattle.irig_station.specs.StationSetups.{IsStationSetup, StationSetup}
use Rattle.text_faults.specs.declared.refusal.Refusal.{Refusal}
use Rattle.text_faults.specs.declared.refusal.Refusal.TheVariants as refusal
use Rattle.text_faults.specs.Refusals.{or_else, holds_or, ◌>>=◌}
use Rattle.scenario_json.specs.Json.{json_of, whole_at}
use Rattle.scenario_values.specs.Names.{are_names, names_in}
use Rattle.scenario_line.specs.PlantLine.{timeline_refusal, generator_refusal, first_of, refused_or}
use Rattle.scenario_line.proofs.SoundPlans.{neither_first, neither_next, timeline_named, named}
use Rattle.scenario_values.proofs.NameCounts.{named_count}
use Rattle.scenario_devices.specs.Setups.{IsDeviceInRange, AreDevicesInRange}
use Rattle.scenario_devices.specs.StationShape.{is_station}
use Rattle.scenario_devices.specs.StationValues.{StationValues, station_values, devices_in}
use Rattle.scenario_devices.specs.StationLine.{StationPlan, device_refusal, device_with, is_four, station_refusal, station_with, station_in_object, station_in_line}
use Rattle.scenario_devices.proofs.BuildLaws.{station_refused, are_devices}
use Rattle.scenario_devices.proofs.ValueLaws.{AreReadStations, found_stations}

-- nothing is wrong with its setup, and each device has a name
pub record IsSoundStation (plan : StationPlan) : Type 0 where
  pub setup : IsStationSetup plan.setup
  pub names : are_names plan.names ≡ true
  pub named : length plan.names ≡ length plan.setup.devices

-- ---- a device that is in range is one that there may be

gain_small : (z : ℤ) → neg_ℤ (pos 1000) ≤ℤ z → z ≤ℤ pos 1000 → unsigned_abs z ≤ 1000
gain_small (pos n) low high = search rules
gain_small (negsuc n) low high = search rules

pub device_plan : (generators : ℕ) (x : DevicePlan) → IsDeviceInRange generators x → IsDevicePlan x
device_plan generators x is = record {
  rules = is.rules;
  gain = gain_small x.gain_us is.slowest is.fastest;
  late = is.late;
  clock = is.steady;
}

-- ---- one step of a plant line after another

sound_setup : (d : Data) (v : StationValues) (names : List (List ℕ)) → AreReadStations d v → names_in (devices_in d) ≡ Ok names → station_refusal v ≡ None
    → IsSoundStation (record { setup = station_with v; names = names })
sound_setup d v names are given unrefused =
    let e = sym (station_refused v) ∙ unrefused in
    let first = neither_first (timeline_refusal v.plant) (option_or (first_of (map generator_refusal v.plant.generators)) (first_of (map device_refusal v.devices))) e in
    let others = neither_next (timeline_refusal v.plant) (option_or (first_of (map generator_refusal v.plant.generators)) (first_of (map device_refusal v.devices))) e in
    let devices = neither_next (first_of (map generator_refusal v.plant.generators)) (first_of (map device_refusal v.devices)) others in
    let count = named_count (devices_in d) names given in
    let values = are.range (omega (arith, count.same, count.least)) (omega (arith, count.same, count.most)) in
    let made = are_devices (length v.plant.generators) v.devices (map device_with v.devices) refl devices values.range values.least values.most in
    record {
      setup = record {
        times = record { sound = timeline_named v.plant.start v.plant.leaps first };
        devices = All-weaker (IsDeviceInRange (length v.plant.generators)) IsDevicePlan (device_plan (length v.plant.generators)) (map device_with v.devices) made.range;
      };
      names = (named (devices_in d) names given).0;
      named = count.same ∙ sym are.count ∙ sym (length-map v.devices device_with);
    }

with_setup : (d : Data) (v : StationValues) (names : List (List ℕ)) (plan : StationPlan) (k : Option Refusal) → AreReadStations d v → names_in (devices_in d) ≡ Ok names → station_refusal v ≡ k
    → (refused_or k (station_with v) >>= (λ setup. Ok (record { setup = setup; names = names }))) ≡ Ok plan → IsSoundStation plan
with_setup d v names plan (Some k) are given e h = absurd cc
with_setup d v names plan None are given e h =
    let same : ◌≡◌ {A = StationPlan} (record { setup = station_with v; names = names }) plan = cc in
    subst IsSoundStation same (sound_setup d v names are given e)

abbrev planned_by : StationValues → List (List ℕ) → Result StationPlan Refusal
planned_by v names = refused_or (station_refusal v) (station_with v) >>= (λ setup. Ok (record { setup = setup; names = names }))

with_names : (d : Data) (v : StationValues) (plan : StationPlan) (o : Result (List (List ℕ)) Refusal) → AreReadStations d v → names_in (devices_in d) ≡ o → (o >>= planned_by v) ≡ Ok plan → IsSoundStation plan
with_names d v plan (Err k) are e h = absurd cc
with_names d v plan (Ok names) are e h = with_setup d v names plan (station_refusal v) are e refl h

abbrev values_planned : Data → StationValues → Result StationPlan Refusal
values_planned d v = names_in (devices_in d) >>= planned_by v

with_values : (d : Data) (plan : StationPlan) (o : Result StationValues Refusal) → or_else refusal.Value (station_values d) ≡ o → (o >>= values_planned d) ≡ Ok plan → IsSoundStation plan
with_values d plan (Err k) e h = absurd cc
with_values d plan (Ok v) e h = with_names d v plan (names_in (devices_in d)) (found_stations d v e) refl h

abbrev shape_planned : Data → Unit {0} → Result StationPlan Refusal
shape_planned d shaped = or_else refusal.Value (station_values d) >>= values_planned d

with_shape : (d : Data) (plan : StationPlan) (b : Bool) → (holds_or refusal.Shape b >>= shape_planned d) ≡ Ok plan → IsSoundStation plan
with_shape d plan false h = absurd cc
with_shape d plan true h = with_values d plan (or_else refusal.Value (station_values d)) refl h

abbrev version_planned : Data → Unit {0} → Result StationPlan Refusal
version_planned d known = holds_or refusal.Shape (is_station d) >>= shape_planned d

with_version : (d : Data) (plan : StationPlan) (b : Bool) → (holds_or refusal.Version b >>= version_planned d) ≡ Ok plan → IsSoundStation plan
with_version d plan false h = absurd cc
with_version d plan true h = with_shape d plan (is_station d) h

with_number : (d : Data) (plan : StationPlan) (o : Option ℤ) → (or_else refusal.Shape o >>= (λ number. holds_or refusal.Version (is_four number) >>= version_planned d)) ≡ Ok plan → IsSoundStation plan
with_number d plan None h = absurd cc
with_number d plan (Some number) h = with_version d plan (is_four number) h

with_members : (d : Data) (plan : StationPlan) (o : Option Members)
    → (or_else refusal.Shape o >>= (λ ms. or_else refusal.Shape (whole_at (codes "version") d) >>= (λ number. holds_or refusal.Version (is_four number) >>= version_planned d))) ≡ Ok plan → IsSoundStation plan
with_members d plan None h = absurd cc
with_members d plan (Some ms) h = with_number d plan (whole_at (codes "version") d) h

with_data : (plan : StationPlan) (o : Option Data) → (or_else refusal.Json o >>= (λ d. station_in_object d)) ≡ Ok plan → IsSoundStation plan
unfolding station_in_object
with_data plan None h = absurd cc
with_data plan (Some d) h = with_members d plan (as_object d) h

pub station_is_sound : (line : List ℕ) (plan : StationPlan) → station_in_line line ≡ Ok plan → IsSoundStation plan
unfolding station_in_line
station_is_sound line plan h = with_data plan (json_of line) h
