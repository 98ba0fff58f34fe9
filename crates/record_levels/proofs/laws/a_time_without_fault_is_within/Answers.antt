use Rattle.record_levels.proofs.LimitLaws.{allowed}
use Rattle.record_levels.proofs.laws.a_time_without_fault_is_within.Goals as goal

pub returns : goal.returns
returns _ = allowed
