use Rattle.std.proofs.Common.{arith, ap, ◌∙◌, below_more, Some}
use Rattle.std.proofs.lemmas.List.{length-set}
use Rattle.irig_frame.specs.declared.symbol.Symbol.{Symbol}
use Rattle.irig_frame.proofs.WritingLaws.{get-set_same, get-set_other}
use Rattle.irig_frame.proofs.encoder.blank.Goals as goal

pub loop-element-init : goal.loop-element-init
loop-element-init c = (omega arith, λ k h. absurd (omega arith))

pub loop-element-preserved : goal.loop-element-preserved
loop-element-preserved c =
    let s = c.loop-element.frame in
    let i = c.loop-element.element in
    let x = c.blank_symbol.result in (
      omega (arith, length-set s i x, c.loop-element.invariant.0),
      below_more _ _
          (λ k h. get-set_other s i k x (λ e. omega (arith, e)) ∙ c.loop-element.invariant.1 k h)
          (get-set_same s i x (omega (arith, c.loop-element.invariant.0)) ∙ ap (λ (y : Symbol). Some y) c.blank_symbol.ensures),
    )
