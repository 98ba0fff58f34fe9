use Rattle.irig_reader.proofs.OneEdge.{misled}
use Rattle.irig_reader.proofs.laws.misleading_takes_a_majority.Goals as goal

pub returns : goal.returns
returns c = misled
