use Rattle.std.proofs.Common.{arith}
use Rattle.std.proofs.lemmas.Grind.{common_steps}
use Rattle.scenario_json.proofs.json.natural_within.Goals as goal

pub returns-in-Ok-clause-value : goal.returns-in-Ok-clause-value
returns-in-Ok-clause-value c = grind (arith, common_steps)

pub returns-in-Ok-clause-least : goal.returns-in-Ok-clause-least
returns-in-Ok-clause-least c = grind (arith, common_steps)

pub returns-in-Ok-clause-most : goal.returns-in-Ok-clause-most
returns-in-Ok-clause-most c = grind (arith, common_steps)

pub returns-in_default-clause-value : goal.returns-in_default-clause-value
returns-in_default-clause-value c = grind (arith, common_steps)

pub returns-in_default-clause-least : goal.returns-in_default-clause-least
returns-in_default-clause-least c = grind (arith, common_steps)

pub returns-in_default-clause-most : goal.returns-in_default-clause-most
returns-in_default-clause-most c = grind (arith, common_steps)

pub returns-in_default-2-clause-value : goal.returns-in_default-2-clause-value
returns-in_default-2-clause-value c = grind (arith, common_steps)

pub returns-in_default-2-clause-least : goal.returns-in_default-2-clause-least
returns-in_default-2-clause-least c = grind (arith, common_steps)

pub returns-in_default-2-clause-most : goal.returns-in_default-2-clause-most
returns-in_default-2-clause-most c = grind (arith, common_steps)

pub returns-in_default-3-clause-value : goal.returns-in_default-3-clause-value
returns-in_default-3-clause-value c = grind (arith, common_steps)

pub returns-in_default-3-clause-least : goal.returns-in_default-3-clause-least
returns-in_default-3-clause-least c = grind (arith, common_steps)

pub returns-in_default-3-clause-most : goal.returns-in_default-3-clause-most
returns-in_default-3-clause-most c = grind (arith, common_steps)
