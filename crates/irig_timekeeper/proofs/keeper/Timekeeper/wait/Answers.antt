use Rattle.std.proofs.Common.{◌∙◌, ◌≤◌, ℕ, sym, ap, subst}
use Rattle.irig_lines.specs.declared.setup.ClockRules.{ClockRules}
use Rattle.irig_timekeeper.specs.declared.clock.ClockState.{ClockState}
use Rattle.irig_timekeeper.specs.Clock.{clock_wait}
use Rattle.irig_timekeeper.specs.Keeping.{Keeping, wait_at}
use Rattle.irig_timekeeper.specs.Life.{life_of}
use Rattle.irig_timekeeper.specs.Lived.{made_with}
use Rattle.irig_timekeeper.proofs.WaitBounds.{waits_at_most}
use Rattle.irig_timekeeper.proofs.keeper.Timekeeper.wait.Goals as goal

pub returns-clause-most : goal.returns-clause-most
returns-clause-most g c made start now calls h clock order =
    let self = c.args.self.now in
    let k : Keeping = life_of (made_with made h.lines h.fresh) calls in
    let value = c.wait_of.ensures
    ∙ (ap (λ (rules : ClockRules). clock_wait rules self.state c.args.now_us) h.is.clock
    ∙ (ap (λ (s : ClockState). clock_wait k.clock s c.args.now_us) h.is.state ∙ ap (wait_at k) clock)) in
    subst (λ (n : ℕ). n ≤ 1006000) (sym value) (waits_at_most (made_with made h.lines h.fresh) start now calls order)
