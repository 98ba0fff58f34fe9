use Rattle.std.proofs.Common.{◌≡◌, ◌∙◌, ◌≤◌, List, [], length, map, take, arith, ap}
use Rattle.std.proofs.lemmas.List.{take_all}
use Rattle.irig_frame.specs.declared.symbol.Symbol.{Symbol}
use Rattle.irig_frame.specs.Symbols.{width_of}
use Rattle.irig_port.specs.Heard.{symbols_heard}
use Rattle.irig_port.specs.Told.{told_of}
use Rattle.irig_plant.proofs.FrameLaws.{frame_heard}
use Rattle.irig_station.proofs.frames.told.Goals as goal

heard : (s : List Symbol) → length s ≤ 101 → symbols_heard (map width_of s) ≡ s
heard s few = ap (take 101) (frame_heard s) ∙ take_all 101 s few

pub returns-clause-value : goal.returns-clause-value
returns-clause-value g c =
    let s = c.args.frame.now in
    c.edge.ensures.told c.args.rules (symbols_heard c.widths_of.result) (c.pulses.ensures c.args.rules [] c.fresh-port.ensures)
    ∙ ap (told_of c.args.rules) (ap symbols_heard c.widths_of.ensures ∙ heard s (omega (arith, c.told-frame)))
