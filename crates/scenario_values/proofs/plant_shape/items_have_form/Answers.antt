use Rattle.std.proofs.Common.{map, arith}
use Rattle.std.proofs.lemmas.Grind.{common_steps}
use Rattle.scenario_json.specs.Fields.{each_item}
use Rattle.scenario_json.specs.Keys.{key_value}
use Rattle.scenario_values.proofs.ListLaws.{all_formed}
use Rattle.scenario_values.proofs.plant_shape.items_have_form.Goals as goal

pub returns : goal.returns
unfolding each_item
returns c =
    let same = all_formed (map key_value c.args.keys.now) c.unwrap_or.result.now in
    grind (arith, common_steps, same, c.have_form.ensures)
