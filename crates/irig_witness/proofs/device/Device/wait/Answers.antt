use Rattle.std.proofs.Common.{◌∙◌, ap, arith, subst}
use Rattle.irig_lines.specs.declared.lines.Lines.{Lines}
use Rattle.irig_timekeeper.specs.Keepers.{IsKeeping}
use Rattle.irig_timekeeper.specs.Keeping.{new_keeping, wait_at}
use Rattle.irig_timekeeper.specs.Life.{after_calls}
use Rattle.irig_timekeeper.specs.Lived.{keeping_after}
use Rattle.irig_witness.proofs.device.Device.wait.Goals as goal

pub returns : goal.returns
returns g c made symbol start calls is =
    let keeper = c.args.self.now.keeper in
    let keeping : IsKeeping keeper (keeping_after made calls) =
    subst (λ (lines : Lines). IsKeeping keeper (after_calls (new_keeping made.rules made.clock made.table lines) calls)) is.lived.none is.lived.is in
    let asked = c.wait.ensures.value (keeping_after made calls) keeping ∙ ap (wait_at (keeping_after made calls)) c.low.ensures in
    let ticked = is.watch.tick in
    omega (arith, asked, ticked)
