use Rattle.std.proofs.Common.{◌≡◌, ◌∙◌, List, subst, sym, arith}
use Rattle.irig_frame.specs.declared.symbol.Symbol.{Symbol}
use Rattle.irig_frame.specs.Symbols.{symbol_of}
use Rattle.irig_port.specs.Tallies.{IsTallyOf}
use Rattle.irig_port.specs.Heard.{symbols_heard, with_symbol}
use Rattle.irig_port.specs.Hearing.{heard_at}
use Rattle.irig_reader.proofs.FedLaws.{heard-place}
use Rattle.c_reader.proofs.line.heard.Goals as goal

pub returns-in_default : goal.returns-in_default
returns-in_default c widths h =
    let more : heard_at c.args.place (symbols_heard widths) c.args.width_us ≡ with_symbol (symbols_heard widths) (symbol_of c.args.width_us) = grind arith in
    subst (λ (s : List Symbol). IsTallyOf c.with_pulse-in_default.result s) (sym (heard-place c.args.place widths c.args.width_us ∙ more)) (c.with_pulse-in_default.ensures _ h)
