use Rattle.irig_plant.proofs.FrameLaws.{frame_told, true_frame_told, frame_heard}
use Rattle.irig_plant.proofs.laws.true_frames_tell_the_truth.Goals as goal

pub returns-clause-symbols : goal.returns-clause-symbols
returns-clause-symbols _ = frame_told

pub returns-clause-widths : goal.returns-clause-widths
returns-clause-widths _ = true_frame_told

pub returns-clause-heard : goal.returns-clause-heard
returns-clause-heard _ = frame_heard
