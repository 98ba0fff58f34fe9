use Rattle.irig_plant.proofs.ExactLaws.{log_keeps_headline}
use Rattle.irig_plant.proofs.laws.logs_keep_the_headline.Goals as goal

pub returns : goal.returns
returns _ = log_keeps_headline
