use Rattle.std.proofs.Common.{◌≡◌, List, get_or, take, subst, ap, sym, ◌∙◌}
use Rattle.std.proofs.lemmas.List.{take_more, take_all}
use Rattle.irig_frame.specs.declared.symbol.Symbol.{Symbol}
use Rattle.irig_port.specs.Heard.{symbols_heard}
use Rattle.irig_port.specs.Told.{told_of_widths}
use Rattle.irig_port.proofs.HeardLaws.{heard-push, told_of-heard}
use Rattle.example_uses.proofs.ports.told_by.Goals as goal

pub loop-width-preserved : goal.loop-width-preserved
loop-width-preserved g c =
    let l = c.loop-width in
    let ws = c.args.widths.now in
    subst (λ (s : List Symbol). g.P.Port.stands_for c.pulse.new.self c.args.rules s)
    (sym (ap symbols_heard (take_more ws l.width-index 0 c.loop-width-test.true) ∙ heard-push (take l.width-index ws) (get_or ws l.width-index 0)))
    (c.pulse.ensures c.args.rules (symbols_heard (take l.width-index ws)) l.invariant)

pub returns : goal.returns
returns g c =
    let ws = c.args.widths.now in
    let all : take c.loop-width.width-index ws ≡ ws = take_all c.loop-width.width-index ws c.loop-width-test.false in
    c.edge.ensures.told c.args.rules (symbols_heard (take c.loop-width.width-index ws)) c.loop-width.invariant
    ∙ told_of-heard c.args.rules (take c.loop-width.width-index ws)
    ∙ ap (told_of_widths c.args.rules) all
