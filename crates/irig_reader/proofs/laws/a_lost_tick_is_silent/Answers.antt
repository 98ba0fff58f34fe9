use Rattle.irig_reader.proofs.OneEdge.{lost_tick}
use Rattle.irig_reader.proofs.laws.a_lost_tick_is_silent.Goals as goal

pub returns : goal.returns
returns c = lost_tick
