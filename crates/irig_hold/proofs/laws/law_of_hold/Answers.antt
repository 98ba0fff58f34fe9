use Rattle.irig_hold.proofs.HoldLaws.{voted_true, alone_true, started_true}
use Rattle.irig_hold.proofs.laws.law_of_hold.Goals as goal

pub returns-clause-voted : goal.returns-clause-voted
returns-clause-voted c = voted_true

pub returns-clause-alone : goal.returns-clause-alone
returns-clause-alone c = alone_true

pub returns-clause-started : goal.returns-clause-started
returns-clause-started c = started_true
