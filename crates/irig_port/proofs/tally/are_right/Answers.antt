use Rattle.std.proofs.Common.{◌≡◌, ◌<◌, ◌↔◌, ℕ, List, length, None, IsTrue, refl, arith, take, subst, ◌∙◌, ap}
use Rattle.std.proofs.lemmas.Bool.{and_parts}
use Rattle.std.proofs.lemmas.List.{take_all}
use Rattle.irig_frame.specs.Faults.{first_wrong}
use Rattle.irig_port.specs.Heard.{symbols_of}
use Rattle.irig_port.proofs.FrameLaws.{right-push, right-back}
use Rattle.irig_port.proofs.tally.are_right.Goals as goal

pub loop-element-init : goal.loop-element-init
loop-element-init c = (λ _. refl, λ _. refl)

pub loop-element-preserved : goal.loop-element-preserved
loop-element-preserved c =
    let l = c.loop-element in
    let ws = c.args.widths_us.now in
    let widths = c.widths_of.ensures in
    let inside : l.element < length ws = c.loop-element-test.true in
    let in_frame : l.element < 100 = omega (arith, c.requires, inside) in
    let here = c.is_right-are_right.ensures l.element (widths.least in_frame) (widths.count in_frame) in (
      λ h.
          let parts = and_parts l.are_right c.is_right-are_right.result h in
          right-push ws l.element inside (l.invariant.0 parts.0) (here.0 parts.1),
      λ right.
          let parts = right-back ws l.element inside right in
          rw (l.invariant.1 parts.0, here.1 parts.1) refl,
    )

pub returns : goal.returns
returns c =
    let l = c.loop-element in
    let ws = c.args.widths_us.now in
    let at : l.element ≡ length ws = omega (arith, c.loop-element-test.false, l.auto.element-end) in
    let all : take l.element ws ≡ ws = ap (λ (n : ℕ). take n ws) at ∙ take_all (length ws) ws (omega arith) in
    subst (λ (w : List ℕ). IsTrue l.are_right ↔ (first_wrong 0 (symbols_of w) ≡ None)) all l.invariant
