use Rattle.std.proofs.Common.{◌∙◌, rules}
use Rattle.record_pulses.specs.Pulses.{pulses_of}
use Rattle.record_pulses.proofs.LookLaws.{comes_after, ended_is, heard_is}
use Rattle.record_pulses.proofs.looks.Look.change.Goals as goal

pub returns-clause-heard : goal.returns-clause-heard
returns-clause-heard c polarity edges h turn =
    let p = c.in_ok-pulse.pulse in
    let ended = ended_is polarity c.args.self.now.pulses.is_high c.args.edge edges p c.change.result h.high (c.change.ensures.pulse edges h.pulses) (search rules) in
    let after = comes_after polarity c.args.edge edges p turn ended in
    heard_is polarity c.args.edge edges p c.hear-place.result ended (c.hear-place.ensures.place (pulses_of polarity edges) h.view after)

pub returns-clause-new : goal.returns-clause-new
returns-clause-new c polarity edges h turn =
    let p = c.in_ok-pulse.pulse in
    let ended = ended_is polarity c.args.self.now.pulses.is_high c.args.edge edges p c.change.result h.high (c.change.ensures.pulse edges h.pulses) (search rules) in
    let after = comes_after polarity c.args.edge edges p turn ended in
    record {
      high = c.change.ensures.polarity ∙ h.high;
      pulses = c.change.ensures.new edges h.pulses;
      view = rw ended (c.hear-place.ensures.new (pulses_of polarity edges) h.view after);
    }
