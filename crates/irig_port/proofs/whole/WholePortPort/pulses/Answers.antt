use Rattle.std.proofs.Common.{◌++◌, take, arith}
use Rattle.std.proofs.lemmas.List.{take_all}
use Rattle.irig_port.specs.Heard.{symbols_heard}
use Rattle.irig_port.proofs.HeardLaws.{heard-more}
use Rattle.irig_port.proofs.whole.WholePortPort.pulses.Goals as goal

pub loop-width_us-preserved : goal.loop-width_us-preserved
loop-width_us-preserved c =
    let l = c.loop-width_us in
    let ws = c.args.widths_us.now in
    let i = l.width_us-index in
    λ rules w s. rw (heard-more w ws i c.loop-width_us-test.true) (c.pulse.ensures rules (symbols_heard (w ++ take i ws)) (l.invariant rules w s))

pub returns : goal.returns
returns c rules w s = rw (take_all c.loop-width_us.width_us-index c.args.widths_us.now (omega arith)) at (c.loop-width_us.invariant rules w s)
