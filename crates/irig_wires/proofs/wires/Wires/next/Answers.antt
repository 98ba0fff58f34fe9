use Rattle.std.proofs.Common.{◌∙◌, sym, ap}
use Rattle.irig_wires.specs.Happenings.{end_or, ending_on}
use Rattle.irig_wires.proofs.OrderLaws.{line_by_line}
use Rattle.irig_wires.proofs.wires.Wires.next.Goals as goal

pub returns : goal.returns
returns c =
    let w = c.args.self.now in
    let fourth = c.end_before-2.ensures ∙ ap (end_or (ending_on 3 w.d.flight)) (c.end_before.ensures ∙ ap (end_or (ending_on 4 w.e.flight)) c.tick_or_send-next.ensures) in
    let second = c.end_before-4.ensures ∙ ap (end_or (ending_on 1 w.b.flight)) (c.end_before-3.ensures ∙ ap (end_or (ending_on 2 w.c.flight)) fourth) in
    c.end_before-5.ensures ∙ ap (end_or (ending_on 0 w.a.flight)) second ∙ sym (line_by_line w c.args.tick_us c.args.send_us)
