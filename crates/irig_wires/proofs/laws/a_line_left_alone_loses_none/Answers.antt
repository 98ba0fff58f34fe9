use Rattle.irig_wires.proofs.CallLaws.{loses_none}
use Rattle.irig_wires.proofs.laws.a_line_left_alone_loses_none.Goals as goal

pub returns : goal.returns
returns _ = loses_none
