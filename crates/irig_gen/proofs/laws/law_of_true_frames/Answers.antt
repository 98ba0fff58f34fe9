use Rattle.irig_gen.proofs.GenLaws.{true_frames}
use Rattle.irig_gen.proofs.laws.law_of_true_frames.Goals as goal

pub returns : goal.returns
returns c = true_frames
