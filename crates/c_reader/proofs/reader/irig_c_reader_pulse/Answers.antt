use Rattle.std.proofs.Common.{rules, ◌<◌, List, [], ◌∷◌, ◌++◌, sym, subst}
use Rattle.irig_frame.specs.declared.symbol.Symbol.{Symbol}
use Rattle.irig_port.specs.Heard.{symbols_heard}
use Rattle.irig_port.specs.Tallies.{IsTallyOf}
use Rattle.irig_port.proofs.HeardLaws.{heard-push}
use Rattle.irig_reader.specs.History.{Fed, fed_to}
use Rattle.c_reader.specs.Readers.{IsReaderOf}
use Rattle.c_numbers.specs.Tallies.{tally_at}
use Rattle.c_reader.proofs.PortLaws.{more-port}
use Rattle.c_reader.proofs.reader.irig_c_reader_pulse.Goals as goal

pub returns-clause-fed : goal.returns-clause-fed
returns-clause-fed c done h s =
    let port = c.args.port in
    let here : port < 5 = search rules in
    let widths = fed_to h.fed port in
    let was : IsTallyOf (tally_at c.args.reader.now.ports c.from.result) (symbols_heard widths) = rw c.from.ensures (s.heard port here) in
    let is : IsTallyOf c.with_pulse-tally.result (symbols_heard (widths ++ c.args.width_us ∷ [])) =
    subst (λ (x : List Symbol). IsTallyOf c.with_pulse-tally.result x) (sym (heard-push widths c.args.width_us)) (c.with_pulse-tally.ensures _ was) in
    subst (λ (f : Fed). IsReaderOf c.set_port.new.reader (record h { fed = f })) (more-port h.fed port (c.args.width_us ∷ []))
    (c.set_port.ensures.heard h (widths ++ c.args.width_us ∷ []) s is)
