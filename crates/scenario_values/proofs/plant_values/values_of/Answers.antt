use Rattle.std.proofs.Common.{arith}
use Rattle.std.proofs.lemmas.Grind.{common_steps}
use Rattle.scenario_values.specs.PlantValues.{plant_values}
use Rattle.scenario_values.proofs.plant_values.values_of.Goals as goal

pub returns-in_err-start : goal.returns-in_err-start
unfolding plant_values
returns-in_err-start c = grind (arith, common_steps)

pub returns-in_err-leaps : goal.returns-in_err-leaps
unfolding plant_values
returns-in_err-leaps c = grind (arith, common_steps)

pub returns-in_err-rules : goal.returns-in_err-rules
unfolding plant_values
returns-in_err-rules c = grind (arith, common_steps)

pub returns-in_err-generators : goal.returns-in_err-generators
unfolding plant_values
returns-in_err-generators c = grind (arith, common_steps)

pub returns-in_err-readers : goal.returns-in_err-readers
unfolding plant_values
returns-in_err-readers c = grind (arith, common_steps)

pub returns : goal.returns
unfolding plant_values
returns c = grind (arith, common_steps)
