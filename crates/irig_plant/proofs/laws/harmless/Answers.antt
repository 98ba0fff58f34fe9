use Rattle.irig_plant.proofs.Headline.{harmless}
use Rattle.irig_plant.proofs.laws.harmless.Goals as goal

pub returns : goal.returns
returns _ = harmless
