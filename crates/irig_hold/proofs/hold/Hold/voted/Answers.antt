use Rattle.std.proofs.Common.{arith}
use Rattle.std.proofs.lemmas.Grind.{common_steps}
use Rattle.irig_hold.proofs.hold.Hold.voted.Goals as goal

pub returns-then-ne-clause-answer : goal.returns-then-ne-clause-answer
returns-then-ne-clause-answer g c = grind (arith, common_steps)

pub returns-then-ne-clause-new : goal.returns-then-ne-clause-new
returns-then-ne-clause-new g c = grind (arith, common_steps)

pub returns-clause-answer : goal.returns-clause-answer
returns-clause-answer g c = grind (arith, common_steps)

pub returns-clause-new : goal.returns-clause-new
returns-clause-new g c = grind (arith, common_steps)
