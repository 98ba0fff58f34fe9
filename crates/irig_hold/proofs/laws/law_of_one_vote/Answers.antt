use Rattle.irig_hold.proofs.HoldLaws.{voted_second, voted_other}
use Rattle.irig_hold.proofs.laws.law_of_one_vote.Goals as goal

pub returns-clause-second : goal.returns-clause-second
returns-clause-second c = voted_second

pub returns-clause-jump : goal.returns-clause-jump
returns-clause-jump c = voted_other
