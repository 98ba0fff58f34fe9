use Rattle.std.proofs.Common.{rules, ◌≡◌, length, sym, ◌∙◌, arith}
use Rattle.std.proofs.lemmas.Grind.{common_steps}
use Rattle.serde_json.specs.View.{view}
use Rattle.scenario_line.specs.PlantLine.{plan_in_object}
use Rattle.scenario_values.proofs.ValueLaws.{found_in_range}
use Rattle.scenario_line.proofs.plant_line.plant_of_value.Goals as goal

pub returns-in_err-ok_or-clause-plan : goal.returns-in_err-ok_or-clause-plan
unfolding plan_in_object
returns-in_err-ok_or-clause-plan c = grind (arith, common_steps)

pub returns-in_err-number-clause-plan : goal.returns-in_err-number-clause-plan
unfolding plan_in_object
returns-in_err-number-clause-plan c = grind (arith, common_steps)

pub returns-in_err-version-clause-plan : goal.returns-in_err-version-clause-plan
unfolding plan_in_object
returns-in_err-version-clause-plan c = grind (arith, common_steps)

pub returns-then-not-is_plant-clause-plan : goal.returns-then-not-is_plant-clause-plan
unfolding plan_in_object
returns-then-not-is_plant-clause-plan c = grind (arith, common_steps)

pub returns-in_err-values-clause-plan : goal.returns-in_err-values-clause-plan
unfolding plan_in_object
returns-in_err-values-clause-plan c = grind (arith, common_steps)

pub returns-in_err-names-clause-plan : goal.returns-in_err-names-clause-plan
unfolding plan_in_object
returns-in_err-names-clause-plan c = grind (arith, common_steps)

pub returns-clause-plan : goal.returns-clause-plan
unfolding plan_in_object
returns-clause-plan c = grind (arith, common_steps)

pub plant_with-requires : goal.plant_with-requires
plant_with-requires c =
    let are = found_in_range c.in_ok-version.version (view c.args.value.now) c.in_ok-values.values c.in_ok-values.ensures in
    let names = c.in_ok-names.ensures in
    record {
      count = are.generators;
      range = are.range;
      least = omega (arith, are.readers, names.count, names.least);
      most = omega (arith, are.readers, names.count, names.most);
    }

pub returns-clause-names : goal.returns-clause-names
returns-clause-names c =
    let are = found_in_range c.in_ok-version.version (view c.args.value.now) c.in_ok-values.values c.in_ok-values.ensures in
    let same : length c.in_ok-names.names.keys ≡ length c.in_ok-values.values.readers = c.in_ok-names.ensures.count ∙ sym are.readers in
    search rules
