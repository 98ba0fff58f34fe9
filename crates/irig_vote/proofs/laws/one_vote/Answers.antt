use Rattle.std.proofs.Common.{◌+◌, arith}
use Rattle.irig_vote.proofs.CountLaws.{one_claim}
use Rattle.irig_vote.proofs.laws.one_vote.Goals as goal

pub returns-clause-one : goal.returns-clause-one
returns-clause-one _ f ports c d few h k = one_claim (f + 1) ports c d (omega arith) h k
