use Rattle.std.proofs.Common.{[], refl, ◌∙◌}
use Rattle.irig_frame.specs.Symbols.{symbol_of}
use Rattle.irig_port.specs.Heard.{with_symbol}
use Rattle.irig_port.specs.Told.{told_of}
use Rattle.example_uses.proofs.ports.told_after_clear.Goals as goal

-- nothing was symbols_heard since: silence
pub returns : goal.returns
unfolding told_of
returns g c =
    let fresh = c.pulse.ensures c.args.rules [] c.fresh-port.ensures in
    c.edge.ensures.told c.args.rules [] (c.clear.ensures c.args.rules (with_symbol [] (symbol_of c.args.width_us)) fresh) ∙ refl
