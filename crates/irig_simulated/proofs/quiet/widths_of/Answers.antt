use Rattle.std.proofs.Common.{◌≡◌, ◌∙◌, ◌<◌, sym, ap, arith, length, take}
use Rattle.std.proofs.lemmas.List.{ext_get_or, get_or-map, get_or-take, length-map, length-take-le}
use Rattle.irig_frame.specs.declared.symbol.Symbol.TheVariants.{Zero}
use Rattle.irig_frame.specs.Symbols.{width_of}
use Rattle.irig_simulated.proofs.quiet.widths_of.Goals as goal

pub returns : goal.returns
returns c =
    let l = c.loop-place in
    let front = take 99 c.args.frame.now in
    let all : length front ≡ 99 = length-take-le 99 c.args.frame.now (omega (arith, c.told-frame)) in
    ext_get_or 0 _ _ (l.invariant.all ∙ sym (length-map front width_of ∙ all)) (λ k less.
    let small : k < 99 = omega (arith, less, l.invariant.all) in
    l.invariant.known k (omega (arith, small, c.loop-place-test.false))
    ∙ sym (get_or-map width_of front k Zero 0 (omega (arith, small, all)) ∙ ap width_of (get_or-take 99 c.args.frame.now k Zero small)))
