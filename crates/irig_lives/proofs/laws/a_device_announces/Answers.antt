use Rattle.std.proofs.Common.{refl}
use Rattle.irig_lines.specs.Lines.{IsTrueLately}
use Rattle.irig_lines.proofs.LineLaws.{true_by_any}
use Rattle.irig_timekeeper.specs.Life.{device_of}
use Rattle.irig_timekeeper.proofs.LifeLaws.{begins}
use Rattle.irig_timekeeper.proofs.AnnounceLaws.{announces}
use Rattle.irig_lives.proofs.laws.a_device_announces.Goals as goal

pub returns : goal.returns
returns _ t edges made start m told calls before u is follows order some enough risen past heard second =
    announces (IsTrueLately made.clock.within.us made.rules t edges) t edges (device_of made) start (begins made.rules made.clock made.table made.lines start made.fresh) is follows
    (λ now half end pulses claim is_true frame soon. true_by_any made.clock made.rules t made.clock.drift_us edges half now end pulses claim is.steady is_true frame soon)
    refl m some enough before told risen past calls heard order u second
