use Rattle.irig_simulated.proofs.StretchLaws.{to_its_end}
use Rattle.irig_simulated.proofs.laws.time_passes_to_its_end.Goals as goal

pub returns : goal.returns
returns c k signal stop x moves = to_its_end k moves signal stop x
