use Rattle.std.proofs.Common.{◌+◌, ◌∙◌, ap}
use Rattle.report_found.specs.Stretches.{one_if}
use Rattle.report_found.proofs.CountLaws.{more_is}
use Rattle.report_found.proofs.stretch.Stretch.more.Goals as goal

pub returns-clause-exact : goal.returns-clause-exact
returns-clause-exact c = λ below.
    let s = c.args.self.now in
    let t = c.args.tick.now in
    more_is c.args.port s t _ _ _ (c.is_steady_at.ensures) (c.counted.ensures below.0 ∙ ap (λ b. s.announced + one_if b) c.is_announced.ensures)
    (c.counted-2.ensures below.1 ∙ ap (λ b. s.untrue + one_if b) c.is_untrue.ensures)
