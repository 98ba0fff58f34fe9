use Rattle.record_pulses.proofs.ViewLaws.{in_step}
use Rattle.record_pulses.proofs.laws.a_whole_frame_is_in_step.Goals as goal

pub returns : goal.returns
returns _ = in_step
