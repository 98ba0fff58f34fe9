use Rattle.record_stamp.proofs.LateLaws.{elapsed}
use Rattle.record_stamp.proofs.laws.lateness_is_elapsed_time.Goals as goal

pub returns : goal.returns
returns _ = elapsed
