use Rattle.irig_gen.proofs.GenLaws.{one_frame_by}
use Rattle.irig_gen.proofs.laws.one_frame.Goals as goal

pub returns : goal.returns
returns c = one_frame_by
