use Rattle.irig_time.proofs.TimeLaws.{one_second, one_claim}
use Rattle.irig_time.proofs.NextLaws.{valid_second}
use Rattle.irig_time.proofs.laws.one_second.Goals as goal

pub returns-clause-seconds : goal.returns-clause-seconds
returns-clause-seconds c = one_second

pub returns-clause-claims : goal.returns-clause-claims
returns-clause-claims c = one_claim

pub returns-clause-valid : goal.returns-clause-valid
returns-clause-valid c = valid_second
