use Rattle.std.proofs.Common.{rules, ◌≡◌, ℕ, ◌-◌, subst, arith}
use Rattle.record_pulses.specs.Views.{are_clear}
use Rattle.record_pulses.proofs.frames.Frames.is_bare.Goals as goal

pub returns : goal.returns
returns c =
    let last : c.loop-element.element - 50 ≡ 29 = omega (arith, c.loop-element.auto.element, c.loop-element.auto.element-end, c.loop-element-test.false) in
    subst (λ (n : ℕ). c.loop-element.is_bare ≡ are_clear c.args.self.now.whole n) last c.loop-element.invariant
