use Rattle.irig_plant.proofs.ExactLaws.{log_is_calm}
use Rattle.irig_plant.proofs.laws.no_false_alarms.Goals as goal

pub returns : goal.returns
returns _ = log_is_calm
