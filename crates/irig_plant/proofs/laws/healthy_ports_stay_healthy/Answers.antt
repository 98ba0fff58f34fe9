use Rattle.irig_plant.proofs.CarryLaws.{spared_health}
use Rattle.irig_plant.proofs.laws.healthy_ports_stay_healthy.Goals as goal

pub returns : goal.returns
returns _ = spared_health
