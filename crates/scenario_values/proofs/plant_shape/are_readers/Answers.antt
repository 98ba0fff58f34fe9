use Rattle.std.proofs.Common.{arith}
use Rattle.std.proofs.lemmas.Grind.{common_steps}
use Rattle.scenario_json.specs.Fields.{each_item}
use Rattle.scenario_values.proofs.ListLaws.{all_readers}
use Rattle.scenario_values.proofs.plant_shape.are_readers.Goals as goal

pub returns : goal.returns
unfolding each_item
returns c =
    let same = all_readers c.args.version c.unwrap_or.result.now in
    grind (arith, common_steps, same, c.all_readers.ensures, c.all_readers.auto.version)
