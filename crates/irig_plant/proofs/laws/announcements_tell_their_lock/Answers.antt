use Rattle.irig_plant.proofs.ExactLaws.{log_tells_lock}
use Rattle.irig_plant.proofs.laws.announcements_tell_their_lock.Goals as goal

pub returns : goal.returns
returns _ = log_tells_lock
