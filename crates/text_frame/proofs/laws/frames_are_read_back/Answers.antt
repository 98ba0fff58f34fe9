use Rattle.text_frame.proofs.ReadBack.{read_back}
use Rattle.text_frame.proofs.laws.frames_are_read_back.Goals as goal

pub returns : goal.returns
returns c = read_back
