use Rattle.irig_simulated.proofs.QuietCourses.{passes}
use Rattle.irig_simulated.proofs.laws.a_quiet_second_is_one_step.Goals as goal

pub returns : goal.returns
returns c k signal x ports n on symbols quiet = passes k signal x ports n on symbols quiet
