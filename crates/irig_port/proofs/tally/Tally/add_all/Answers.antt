use Rattle.std.proofs.Common.{◌≡◌, List, length, refl, sym, arith, subst}
use Rattle.irig_frame.specs.declared.symbol.Symbol.{Symbol}
use Rattle.irig_port.specs.Heard.{symbols_heard}
use Rattle.irig_port.specs.Tallies.{IsTallyOf}
use Rattle.irig_port.proofs.FrameLaws.{heard-first}
use Rattle.irig_port.proofs.tally.Tally.add_all.Goals as goal

pub returns-then-is_right_start-clause-added : goal.returns-then-is_right_start-clause-added
returns-then-is_right_start-clause-added c w h =
    let none : length (symbols_heard w) ≡ 0 = omega (arith, h.counted, c.if-self-eq0.true) in
    let same = heard-first w c.args.widths_us.now none (c.if-is_right_start.ensures.0 refl).1 in
    subst (λ (s : List Symbol). IsTallyOf c.of_start.result s) (sym same) c.of_start.ensures.of_widths
