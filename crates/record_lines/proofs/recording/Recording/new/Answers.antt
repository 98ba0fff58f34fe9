use Rattle.std.proofs.Common.{refl}
use Rattle.record_lines.proofs.SeeLaws.{recording_new}
use Rattle.record_lines.proofs.recording.Recording.new.Goals as goal

pub returns : goal.returns
returns g c =
    recording_new _ _ c.args.glitch_ns c.in_ok-receiver.ensures.is c.ports.ensures c.new-2.ensures c.in_ok-new.ensures.nothing c.in_ok-new.ensures.room refl refl
