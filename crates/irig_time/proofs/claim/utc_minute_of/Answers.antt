use Rattle.std.proofs.Common.{arith}
use Rattle.std.proofs.lemmas.Int.{ints}
use Rattle.std.proofs.lemmas.Grind.{common_steps}
use Rattle.irig_time.specs.Claims.{utc_minute}
use Rattle.irig_time.proofs.claim.utc_minute_of.Goals as goal

pub overflow_mul-offset : goal.overflow_mul-offset
overflow_mul-offset c = omega (arith, ints)

pub overflow_add-result : goal.overflow_add-result
overflow_add-result c = omega (arith, ints)

pub overflow_sub-result : goal.overflow_sub-result
overflow_sub-result c = omega (arith, ints)

pub returns-in-Add : goal.returns-in-Add
unfolding utc_minute
returns-in-Add c = grind (arith, common_steps)

pub returns-in-Subtract : goal.returns-in-Subtract
unfolding utc_minute
returns-in-Subtract c = grind (arith, common_steps)
