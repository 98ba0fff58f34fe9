use Rattle.irig_plant.proofs.HearingLaws.{alike_report}
use Rattle.irig_plant.proofs.laws.equal_hearing.Goals as goal

pub returns : goal.returns
returns _ = alike_report
