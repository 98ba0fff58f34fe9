use Rattle.irig_station.proofs.ToldLaws.{is_told}
use Rattle.irig_station.proofs.laws.a_device_is_told_what_it_hears.Goals as goal

pub returns : goal.returns
returns c s ev r = is_told s r ev
