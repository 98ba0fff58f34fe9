use Rattle.irig_hold.proofs.HoldLaws.{voted_goes, alone_goes, started_goes}
use Rattle.irig_hold.proofs.laws.law_of_steps.Goals as goal

pub returns-clause-voted : goal.returns-clause-voted
returns-clause-voted c = voted_goes

pub returns-clause-alone : goal.returns-clause-alone
returns-clause-alone c = alone_goes

pub returns-clause-started : goal.returns-clause-started
returns-clause-started c = started_goes
