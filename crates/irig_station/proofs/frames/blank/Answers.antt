use Rattle.std.proofs.Common.{◌∙◌, ◌<◌, refl, sym, arith}
use Rattle.std.proofs.lemmas.List.{ext_get_or, get_or-replicate}
use Rattle.std.proofs.lemmas.List.FromFn.{get_or-map-range_with_len, length-map-range_with_len}
use Rattle.irig_frame.specs.declared.symbol.Symbol.TheVariants.{Zero}
use Rattle.irig_witness.specs.TrueFrames.{blank, blank_at}
use Rattle.irig_station.proofs.frames.blank.Goals as goal

pub returns : goal.returns
unfolding blank
returns c =
    let l = c.loop-element in
    ext_get_or Zero l.frame blank (l.invariant.0 ∙ sym (length-map-range_with_len blank_at 0 100))
    (λ k less. let small : k < 100 = omega (arith, less, l.invariant.0) in
    l.invariant.1 k (omega (arith, small, c.loop-element-test.false)) ∙ sym (get_or-map-range_with_len blank_at 0 100 k k Zero small (omega arith)))

pub loop-element-init : goal.loop-element-init
loop-element-init c = (refl, λ k none. absurd (omega (arith, none)), λ k _ less. get_or-replicate 100 k Zero Zero less)
