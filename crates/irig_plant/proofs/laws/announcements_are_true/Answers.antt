use Rattle.irig_plant.proofs.Headline.{log_is_true}
use Rattle.irig_plant.proofs.laws.announcements_are_true.Goals as goal

pub returns : goal.returns
returns _ = log_is_true
