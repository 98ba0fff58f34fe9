use Rattle.irig_port.proofs.LimitLaws.{claim_within, open_limits}
use Rattle.irig_port.proofs.laws.limits_only_take_claims.Goals as goal

pub returns-clause-claim : goal.returns-clause-claim
returns-clause-claim c = claim_within

pub returns-clause-least : goal.returns-clause-least
returns-clause-least c = open_limits
