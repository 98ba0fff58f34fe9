use Rattle.std.proofs.Common.{◌++◌, take, subst}
use Rattle.std.specs.Prelude.{reverse}
use Rattle.std.proofs.lemmas.List.{take_all}
use Rattle.report_found.proofs.DeviceLaws.{entries_more}
use Rattle.report_lanes.specs.DeviceRuns.{HasDrawnSoFar}
use Rattle.report_lanes.proofs.drawer.Drawer.take_all.Goals as goal

pub loop-entry-preserved : goal.loop-entry-preserved
loop-entry-preserved g c = λ s x shown before stands known at.
    let i = c.loop-entry.entry-index in
    let es = c.args.entries.now in
    subst (HasDrawnSoFar c.take_told.new.self s) (entries_more es i _ before c.loop-entry-test.true)
    (c.in_ok-take_told.ensures s x shown (reverse (take i es) ++ before) stands (known i _ c.loop-entry-test.true) (c.loop-entry.invariant s x shown before stands known at))

pub returns : goal.returns
returns g c = λ s x shown before stands known at.
    let es = c.args.entries.now in
    subst (λ l. HasDrawnSoFar c.loop-entry.self s (reverse l ++ before)) (take_all c.loop-entry.entry-index es c.loop-entry-test.false)
    (c.loop-entry.invariant s x shown before stands known at)
