use Rattle.irig_plant.proofs.PortLaws.{voted_by_ports}
use Rattle.irig_plant.proofs.laws.voted_ports.Goals as goal

pub returns : goal.returns
returns _ = voted_by_ports
