use Rattle.irig_gen.proofs.SentLaws.{frame_of_is, sent_of_is}
use Rattle.irig_gen.proofs.laws.frames_are.Goals as goal

pub returns-clause-frame : goal.returns-clause-frame
returns-clause-frame c = frame_of_is

pub returns-clause-sent : goal.returns-clause-sent
returns-clause-sent c = sent_of_is
