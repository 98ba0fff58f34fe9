use Rattle.irig_port.proofs.CarriesLaws.{carries_is_told}
use Rattle.irig_port.proofs.laws.carries_is_told.Goals as goal

pub returns : goal.returns
returns c = carries_is_told
