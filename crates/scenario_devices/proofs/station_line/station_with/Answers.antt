use Rattle.std.proofs.Common.{◌≡◌, None, length, map, sym, ap, ◌∙◌, subst, arith, rules}
use Rattle.std.proofs.lemmas.List.{length-map}
use Rattle.scenario_line.specs.PlantLine.{first_of, generator_with}
use Rattle.scenario_devices.specs.Setups.{AreDevicesInRange}
use Rattle.scenario_devices.specs.StationLine.{device_refusal, device_with}
use Rattle.scenario_line.proofs.BuildLaws.{are_generators}
use Rattle.scenario_devices.proofs.BuildLaws.{station_refused, as_many, are_devices}
use Rattle.scenario_devices.proofs.station_line.station_with.Goals as goal

pub returns-in_err-timeline-clause-made : goal.returns-in_err-timeline-clause-made
returns-in_err-timeline-clause-made c = grind (arith, station_refused)

pub returns-in_err-generators-clause-made : goal.returns-in_err-generators-clause-made
returns-in_err-generators-clause-made c = grind (arith, station_refused)

pub returns-in_err-devices-clause-made : goal.returns-in_err-devices-clause-made
returns-in_err-devices-clause-made c = grind (arith, station_refused)

pub returns-clause-made : goal.returns-clause-made
returns-clause-made c = grind (arith, station_refused)

pub returns-clause-generators : goal.returns-clause-generators
returns-clause-generators c = grind (arith, are_generators)

pub returns-clause-devices : goal.returns-clause-devices
returns-clause-devices c =
    let values = c.args.values.now in
    let generators : c.deref.result.now ≡ values.plant.generators = search rules in
    let devices : c.deref-2.result.now ≡ values.devices = search rules in
    let lines : length c.in_ok-generators.generators.items ≡ length values.plant.generators =
    ap length c.in_ok-generators.ensures.1 ∙ length-map c.deref.result.now (generator_with c.plant.inside.rules) ∙ ap length generators in
    let made : c.in_ok-devices.devices.items ≡ map device_with values.devices = c.in_ok-devices.ensures.1 ∙ ap (map device_with) devices in
    let unrefused : first_of (map device_refusal values.devices) ≡ None = ap (λ vs. first_of (map device_refusal vs)) (sym devices) ∙ c.in_ok-devices.ensures.0 in
    subst (λ n. AreDevicesInRange n c.in_ok-devices.devices.items) (sym lines)
    (are_devices (length values.plant.generators) values.devices c.in_ok-devices.devices.items made unrefused c.requires.range c.requires.least c.requires.most)

pub returns-clause-count : goal.returns-clause-count
returns-clause-count c =
    let devices : c.deref-2.result.now ≡ c.args.values.now.devices = search rules in
    let same : length c.in_ok-devices.devices.items ≡ length c.args.values.now.devices =
    as_many c.deref-2.result.now c.in_ok-devices.devices.items c.in_ok-devices.ensures.1 ∙ ap length devices in
    search rules
