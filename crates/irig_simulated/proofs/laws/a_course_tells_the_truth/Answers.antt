use Rattle.irig_simulated.proofs.CourseLaws.{goes_passed, goes_ticked}
use Rattle.irig_simulated.proofs.laws.a_course_tells_the_truth.Goals as goal

pub returns-clause-passes : goal.returns-clause-passes
returns-clause-passes c t sent k signal stop x is kept = goes_passed t sent k is signal stop x kept

pub returns-clause-ticks : goal.returns-clause-ticks
returns-clause-ticks c t sent k x is kept = goes_ticked t sent k is x kept
