use Rattle.irig_reader.proofs.OneEdge.{holdover_within}
use Rattle.irig_reader.proofs.laws.holdover_is_bounded.Goals as goal

pub returns : goal.returns
returns c = holdover_within
