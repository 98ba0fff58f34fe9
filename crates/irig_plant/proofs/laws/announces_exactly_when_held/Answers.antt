use Rattle.irig_plant.proofs.ExactLaws.{log_when_held}
use Rattle.irig_plant.proofs.HeldByTest.{held_is}
use Rattle.irig_plant.proofs.laws.announces_exactly_when_held.Goals as goal

pub returns-clause-entries : goal.returns-clause-entries
returns-clause-entries _ = log_when_held

pub returns-clause-held : goal.returns-clause-held
returns-clause-held _ = held_is
