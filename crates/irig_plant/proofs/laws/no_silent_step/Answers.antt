use Rattle.irig_plant.proofs.SteadyLaws.{ticks_follow}
use Rattle.irig_plant.proofs.laws.no_silent_step.Goals as goal

pub returns : goal.returns
returns _ = ticks_follow
