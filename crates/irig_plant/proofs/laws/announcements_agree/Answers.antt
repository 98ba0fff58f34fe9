use Rattle.irig_plant.proofs.Headline.{entries_agree, entries_in_order}
use Rattle.irig_plant.proofs.laws.announcements_agree.Goals as goal

pub returns-clause-same : goal.returns-clause-same
returns-clause-same _ = entries_agree

pub returns-clause-order : goal.returns-clause-order
returns-clause-order _ = entries_in_order
