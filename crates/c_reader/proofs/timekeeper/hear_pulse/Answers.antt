use Rattle.std.proofs.Common.{subst}
use Rattle.c_keeper.specs.Timekeepers.{clock_in}
use Rattle.c_lines.specs.declared.line.IrigLine.{IrigLine}
use Rattle.c_keeper.proofs.HeardLaws.{one_more, IsBehindPulse}
use Rattle.c_reader.proofs.timekeeper.hear_pulse.Goals as goal

pub returns-clause-fed : goal.returns-clause-fed
returns-clause-fed c k h =
    let heard = c.hear-place.ensures in
    let behind = subst (λ (l : IrigLine). IsBehindPulse (clock_in c.args.timekeeper.now) c.args.rise_us c.args.width_us c.hear-place.result l c.hear-place.new.line) c.line_at.ensures
    (record { at = heard.place; line = λ limits rules s tally. heard.line limits rules s h.accepted.wires tally; heard = heard.heard }) in
    one_more c.args.timekeeper.now c.set_line.new.timekeeper k c.args.port c.args.rise_us c.args.width_us c.hear-place.result c.hear-place.new.line
    c.requires.port.1 behind c.set_line.ensures.line c.set_line.ensures.sealed h
