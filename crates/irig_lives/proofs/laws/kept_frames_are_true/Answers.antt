use Rattle.irig_lines.proofs.LineLaws.{frame_is_true}
use Rattle.irig_lives.proofs.laws.kept_frames_are_true.Goals as goal

pub returns : goal.returns
returns _ clock rules t d half now end edges pulses claim steady is frame soon = frame_is_true clock.within rules t d edges steady clock half now end pulses claim is frame soon
