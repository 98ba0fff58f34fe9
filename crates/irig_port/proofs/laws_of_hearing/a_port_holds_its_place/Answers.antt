use Rattle.irig_port.proofs.RunLaws.{holds_place}
use Rattle.irig_port.proofs.laws_of_hearing.a_port_holds_its_place.Goals as goal

pub returns : goal.returns
returns _ = holds_place
