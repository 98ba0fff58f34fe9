use Rattle.std.proofs.Common.{rules, ◌<◌}
use Rattle.irig_port.specs.Heard.{symbols_heard}
use Rattle.irig_port.specs.Tallies.{IsTallyOf}
use Rattle.irig_port.proofs.RunLaws.{hears}
use Rattle.irig_reader.specs.History.{fed_to, widths_at}
use Rattle.irig_reader.proofs.FedLaws.{heard-hearing}
use Rattle.c_numbers.specs.Tallies.{tally_at}
use Rattle.c_reader.proofs.line.irig_c_reader_hear.Goals as goal

pub returns-clause-fed : goal.returns-clause-fed
returns-clause-fed c there h s =
    let port = c.args.port in
    let here : port < 5 = search rules in
    let widths = fed_to h.fed port in
    let was : IsTallyOf (tally_at c.args.reader.now.ports c.from.result) (symbols_heard widths) = rw c.from.ensures (s.heard port here) in
    c.set_port.ensures.heard h (widths_at c.pulse-place.result widths c.args.width_us) s (c.heard-tally.ensures widths was)

pub returns-clause-run : goal.returns-clause-run
returns-clause-run c there heard pulses now time =
    hears heard c.args.sync.now c.pulse-place.new.self pulses now time c.args.rise_us c.args.width_us c.pulse-place.result c.pulse-place.ensures.place c.pulse-place.ensures.new

pub returns-clause-stands : goal.returns-clause-stands
returns-clause-stands c there h = heard-hearing h c.args.port c.pulse-place.result c.args.width_us
