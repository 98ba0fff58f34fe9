use Rattle.irig_plant.proofs.ExactLaws.{log_tells_cause}
use Rattle.irig_plant.proofs.laws.silences_tell_their_cause.Goals as goal

pub returns : goal.returns
returns _ = log_tells_cause
