use Rattle.irig_port.proofs.NumberLaws.{none_yet}
use Rattle.irig_port.proofs.tally.Tally.none.Goals as goal

pub returns-clause-of_none : goal.returns-clause-of_none
returns-clause-of_none c = none_yet
