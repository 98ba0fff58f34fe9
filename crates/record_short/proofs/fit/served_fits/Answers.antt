use Rattle.std.proofs.Common.{◌≡◌, true, sym}
use Rattle.record_short.specs.Fits.{frame_sent, is_blank}
use Rattle.record_short.proofs.FitLaws.{blank_fits}
use Rattle.record_short.proofs.fit.served_fits.Goals as goal

pub returns-then-is_blank : goal.returns-then-is_blank
returns-then-is_blank c =
    let blank : is_blank c.args.shown.now ≡ true = cc in
    sym (blank_fits c.args.rules.sbs 0 c.args.shown.now (frame_sent c.args.rules.sense c.args.zone c.args.second.now) blank)
