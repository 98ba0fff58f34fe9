use Rattle.irig_time.proofs.SecondAt.{second_is, claim_is}
use Rattle.irig_time.proofs.laws.second_is.Goals as goal

pub returns-clause-second : goal.returns-clause-second
returns-clause-second c = second_is

pub returns-clause-claim : goal.returns-clause-claim
returns-clause-claim c = claim_is
