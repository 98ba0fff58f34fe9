use Rattle.irig_plant.proofs.KeptLaws.{kept_log_is_true}
use Rattle.irig_plant.proofs.laws.kept_logs_are_true.Goals as goal

pub returns : goal.returns
returns _ = kept_log_is_true
