use Rattle.irig_time.proofs.TimeShown.{time_is_shown}
use Rattle.irig_time.proofs.laws.time_is_shown.Goals as goal

pub returns : goal.returns
returns c = time_is_shown
