use Rattle.std.proofs.Common.{◌≡◌, ◌∙◌, sym, subst, List, slice_set, length, not, arith, true, ap}
use Rattle.std.proofs.lemmas.List.{set-set}
use Rattle.irig_frame.specs.declared.symbol.Symbol.{Symbol}
use Rattle.irig_frame.specs.declared.symbol.Symbol.TheVariants.{Zero, One}
use Rattle.irig_control.specs.Parity.{HasParity, data_symbol}
use Rattle.irig_control.proofs.ParityLaws.{other_parity}
use Rattle.irig_control.proofs.parity.set_parity.Goals as goal

pub returns-then-not-parity_ok-clause-parity : goal.returns-then-not-parity_ok-clause-parity
returns-then-not-parity_ok-clause-parity c =
    let s = c.args.frame.now in
    let p = c.args.parity in
    let len : length s ≡ 100 = c.told-frame in
    subst (λ (t : List Symbol). HasParity p t) (sym (set-set s 75 Zero One)) (other_parity p s (omega (arith, len)) (sym c.parity_ok.ensures ∙ c.if-not-parity_ok.true))

pub returns-then-not-parity_ok-clause-others : goal.returns-then-not-parity_ok-clause-others
returns-then-not-parity_ok-clause-others c = (true, set-set c.args.frame.now 75 Zero One)

pub returns-then-not-parity_ok-clause-exact : goal.returns-then-not-parity_ok-clause-exact
returns-then-not-parity_ok-clause-exact c =
    let s = c.args.frame.now in
    set-set s 75 Zero One ∙ ap (λ b. slice_set s 75 (data_symbol (not b))) (sym (sym c.parity_ok.ensures ∙ c.if-not-parity_ok.true))
