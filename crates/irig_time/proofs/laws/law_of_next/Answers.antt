use Rattle.irig_time.proofs.NextLaws.{heard, unspoken, end}
use Rattle.irig_time.proofs.laws.law_of_next.Goals as goal

pub returns-clause-heard : goal.returns-clause-heard
returns-clause-heard c = heard

pub returns-clause-unspoken : goal.returns-clause-unspoken
returns-clause-unspoken c = unspoken

pub returns-clause-end : goal.returns-clause-end
returns-clause-end c = end
