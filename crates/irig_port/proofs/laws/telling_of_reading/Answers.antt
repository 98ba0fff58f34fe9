use Rattle.irig_port.proofs.CarriesLaws.{told_of_reading}
use Rattle.irig_port.proofs.laws.telling_of_reading.Goals as goal

pub returns : goal.returns
returns c = told_of_reading
