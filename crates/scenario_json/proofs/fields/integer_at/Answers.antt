use Rattle.std.proofs.Common.{arith}
use Rattle.std.proofs.lemmas.Grind.{common_steps}
use Rattle.scenario_json.proofs.fields.integer_at.Goals as goal

pub returns-in_ok-whole_at-in-Integer-clause-least : goal.returns-in_ok-whole_at-in-Integer-clause-least
returns-in_ok-whole_at-in-Integer-clause-least c = grind (arith, common_steps)

pub returns-in_ok-whole_at-in-Integer-clause-most : goal.returns-in_ok-whole_at-in-Integer-clause-most
returns-in_ok-whole_at-in-Integer-clause-most c = grind (arith, common_steps)
