use Rattle.irig_simulated.proofs.HeardLaws.{told_until}
use Rattle.irig_simulated.proofs.laws.a_course_is_told_what_it_hears.Goals as goal

pub returns-clause-passes : goal.returns-clause-passes
returns-clause-passes c k r signal stop x = told_until k r signal stop x
