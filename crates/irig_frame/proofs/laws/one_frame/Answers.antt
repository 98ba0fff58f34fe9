use Rattle.irig_frame.proofs.OneFrame.{one_frame}
use Rattle.irig_frame.proofs.laws.one_frame.Goals as goal

pub returns : goal.returns
returns c = one_frame
