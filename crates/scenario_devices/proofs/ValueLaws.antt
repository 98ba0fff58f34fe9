-- What the values of a plant line of version 4 keep to: how many there are, and their ranges.
use Rattle.std.proofs.Common.{◌≡◌, ◌≤◌, ℕ, length, Some, subst, arith}
use Rattle.std.proofs.lemmas.Option.{same_Some, option_and_then_some}
use Rattle.serde_json.specs.Data.{Data}
use Rattle.text_faults.specs.declared.refusal.Refusal.TheVariants.{Value}
use Rattle.text_faults.specs.Refusals.{or_else}
use Rattle.std.specs.Prelude.{Ok}
use Rattle.scenario_json.specs.Json.{all_of}
use Rattle.scenario_json.specs.Fields.{natural_at}
use Rattle.scenario_values.specs.declared.plant_shape.Version.TheVariants.{Three}
use Rattle.scenario_values.specs.PlantValues.{reader_of, plant_values}
use Rattle.scenario_values.proofs.ValueLaws.{all_are_of, reader_in_range, values_in_range, found_is}
use Rattle.scenario_devices.specs.StationShape.{drift_key}
use Rattle.scenario_devices.specs.StationValues.{DeviceValues, StationValues, gain_of, counter_of, late_of, ticking_of, device_values, devices_in, station_values}
use Rattle.scenario_devices.specs.StationLine.{IsDeviceValues, AreStationValues}
use Rattle.scenario_devices.proofs.RangeLaws.{drift_in_range, gain_in_range, late_in_range, ticking_in_range}

device_in_range : (generators : ℕ) (d : Data) (x : DeviceValues) → device_values generators d ≡ Some x → IsDeviceValues generators x
unfolding device_values
device_in_range generators d x e =
    option_and_then_some _ (reader_of d) x e (λ reader read e1.
    option_and_then_some _ (natural_at drift_key d) x e1 (λ drift drifts e2.
    option_and_then_some _ (gain_of d) x e2 (λ gain gains e3.
    option_and_then_some _ (counter_of d) x e3 (λ counter counts e4.
    option_and_then_some _ (late_of generators d) x e4 (λ late lates e5.
    option_and_then_some _ (ticking_of d) x e5 (λ ticking ticks made.
    let speed = gain_in_range d gain gains in
    let lines = late_in_range generators d late lates in
    subst (IsDeviceValues generators) (same_Some _ x made) (record {
      rules = reader_in_range d reader read;
      drift = drift_in_range d drift drifts;
      slowest = speed.0;
      fastest = speed.1;
      lines = lines.0;
      late = lines.1;
      ticking = ticking_in_range d ticking ticks;
    })))))))

-- for each device's object a device; if these are 1 to 16, all are in range
pub record AreReadStations (d : Data) (v : StationValues) : Type 0 where
  pub count : length v.devices ≡ length (devices_in d)
  pub range : 1 ≤ length (devices_in d) → length (devices_in d) ≤ 16 → AreStationValues v

station_in_range : (d : Data) (v : StationValues) → station_values d ≡ Some v → AreReadStations d v
unfolding station_values
station_in_range d v e =
    option_and_then_some _ (plant_values Three d) v e (λ plant is e1.
    option_and_then_some _ (all_of (device_values (length plant.generators)) (devices_in d)) v e1 (λ devices read made.
    let generators = length plant.generators in
    let are = all_are_of (device_values generators) (IsDeviceValues generators) (device_in_range generators) (devices_in d) devices read in
    subst (AreReadStations d) (same_Some _ v made) (record {
      count = are.count;
      range = λ least most. record {
        generators = (values_in_range Three d plant is).generators;
        least = omega (arith, are.count, least);
        most = omega (arith, are.count, most);
        range = are.facts;
      };
    })))

-- so for the values that a line's object has, if there are any
pub found_stations : (d : Data) (v : StationValues) → or_else Value (station_values d) ≡ Ok v → AreReadStations d v
found_stations d v e = station_in_range d v (found_is (station_values d) v e)
