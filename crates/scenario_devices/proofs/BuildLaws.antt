-- What is made of the values of a station.
use Rattle.std.proofs.Common.{◌≡◌, ◌≤◌, ℕ, List, [], ◌∷◌, map, length, All, Option, Some, None, refl, sym, ap, ◌∙◌, arith}
use Rattle.std.specs.Prelude.{option_map}
use Rattle.std.specs.Option.{option_or}
use Rattle.std.proofs.lemmas.List.{length-map}
use Rattle.std.proofs.lemmas.List.Elements.{All-nil, All-cons, All-head, All-tail}
use Rattle.irig_lines.specs.declared.setup.ClockFault.{ClockFault}
use Rattle.irig_lines.specs.Refusals.{clock_fault}
use Rattle.irig_simulated.specs.Setups.{DevicePlan}
use Rattle.scenario_line.specs.PlantLine.{first_of, timeline_refusal, generator_refusal, reader_refusal}
use Rattle.scenario_line.proofs.BuildLaws.{first_of_both}
use Rattle.scenario_line.proofs.SoundPlans.{neither_first, neither_next}
use Rattle.scenario_devices.specs.Setups.{IsDeviceInRange, AreDevicesInRange}
use Rattle.scenario_devices.specs.StationValues.{DeviceValues, StationValues}
use Rattle.scenario_devices.specs.StationLine.{IsDeviceValues, of_clock, device_refusal, device_with, station_refusal}

pub station_refused : (v : StationValues)
    → station_refusal v ≡ option_or (timeline_refusal v.plant) (option_or (first_of (map generator_refusal v.plant.generators)) (first_of (map device_refusal v.devices)))
station_refused v = ap (option_or (timeline_refusal v.plant)) (first_of_both (map generator_refusal v.plant.generators) (map device_refusal v.devices))

-- ---- a device

no_fault : (o : Option ClockFault) → option_map of_clock o ≡ None → o ≡ None
no_fault None e = refl
no_fault (Some fault) e = absurd cc

-- a device of values in range that are not refused
device_made : (generators : ℕ) (v : DeviceValues) (x : DevicePlan) → IsDeviceValues generators v → device_refusal v ≡ None → x ≡ device_with v → IsDeviceInRange generators x
device_made generators v x is unrefused same =
    let rules : x.rules ≡ v.reader.rules = ap (λ (p : DevicePlan). p.rules) same in
    let drift : x.drift_us ≡ v.drift = ap (λ (p : DevicePlan). p.drift_us) same in
    let gain : x.gain_us ≡ v.gain = ap (λ (p : DevicePlan). p.gain_us) same in
    let late : x.late_us ≡ v.late = ap (λ (p : DevicePlan). p.late_us) same in
    let ticking : x.ticking ≡ v.ticking = ap (λ (p : DevicePlan). p.ticking) same in
    let steady = no_fault (clock_fault v.reader.rules v.drift 0) (neither_next (reader_refusal v.reader) (option_map of_clock (clock_fault v.reader.rules v.drift 0)) unrefused) in
    record {
      rules = rw rules is.rules;
      drift = rw drift is.drift;
      slowest = rw gain is.slowest;
      fastest = rw gain is.fastest;
      steady = rw rules (rw drift steady);
      lines = ap length late ∙ is.lines;
      late = rw late is.late;
      ticking = rw ticking is.ticking;
    }

-- ---- all of them

each_made : (generators : ℕ) (vs : List DeviceValues) (xs : List DevicePlan) → xs ≡ map device_with vs → first_of (map device_refusal vs) ≡ None → All (IsDeviceValues generators) vs
    → All (IsDeviceInRange generators) xs
each_made generators [] [] same unrefused are = All-nil (IsDeviceInRange generators)
each_made generators [] (x ∷ xs) same unrefused are = absurd cc
each_made generators (v ∷ vs) [] same unrefused are = absurd cc
each_made generators (v ∷ vs) (x ∷ xs) same unrefused are =
    let first : x ≡ device_with v = cc in
    let others : xs ≡ map device_with vs = cc in
    All-cons (IsDeviceInRange generators) x xs
    (device_made generators v x (All-head (IsDeviceValues generators) v vs are) (neither_first (device_refusal v) (first_of (map device_refusal vs)) unrefused) first)
    (each_made generators vs xs others (neither_next (device_refusal v) (first_of (map device_refusal vs)) unrefused) (All-tail (IsDeviceValues generators) v vs are))

pub as_many : (vs : List DeviceValues) (xs : List DevicePlan) → xs ≡ map device_with vs → length xs ≡ length vs
as_many vs xs same = ap length same ∙ length-map vs device_with

pub are_devices : (generators : ℕ) (vs : List DeviceValues) (xs : List DevicePlan) → xs ≡ map device_with vs → first_of (map device_refusal vs) ≡ None
    → All (IsDeviceValues generators) vs → 1 ≤ length vs → length vs ≤ 16 → AreDevicesInRange generators xs
are_devices generators vs xs same unrefused are least most =
    let count = as_many vs xs same in
    record { least = omega (arith, count, least); most = omega (arith, count, most); range = each_made generators vs xs same unrefused are }
