use Rattle.std.proofs.Common.{◌++◌, take}
use Rattle.irig_port.specs.Heard.{symbols_heard}
use Rattle.irig_port.proofs.HeardLaws.{heard-more}
use Rattle.irig_port.proofs.tally.Tally.add_each.Goals as goal

pub loop-width_us-preserved : goal.loop-width_us-preserved
loop-width_us-preserved c =
    let l = c.loop-width_us in
    let ws = c.args.widths_us.now in
    let i = l.width_us-index in
    record {
      added = λ w s. rw (heard-more w ws i c.loop-width_us-test.true) (c.add.ensures.added (symbols_heard (w ++ take i ws)) (l.invariant.added w s));
      few = λ h. c.add.ensures.few;
    }
