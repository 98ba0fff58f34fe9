use Rattle.std.proofs.Common.{arith}
use Rattle.std.proofs.lemmas.Int.{ints}
use Rattle.std.proofs.lemmas.Grind.{common_steps}
use Rattle.scenario_json.proofs.json.integer_within.Goals as goal

pub overflow_cast-result : goal.overflow_cast-result
overflow_cast-result c = omega (arith, ints)

pub returns-then-number-from-clause-value : goal.returns-then-number-from-clause-value
returns-then-number-from-clause-value c = grind (arith, common_steps)

pub returns-then-number-from-clause-least : goal.returns-then-number-from-clause-least
returns-then-number-from-clause-least c = grind (arith, common_steps)

pub returns-then-number-from-clause-most : goal.returns-then-number-from-clause-most
returns-then-number-from-clause-most c = grind (arith, common_steps)

pub returns-else-from-number-clause-value : goal.returns-else-from-number-clause-value
returns-else-from-number-clause-value c = grind (arith, common_steps)
