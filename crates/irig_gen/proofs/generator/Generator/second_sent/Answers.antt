use Rattle.std.proofs.Common.{sym, ap, ◌∙◌}
use Rattle.std.specs.Option.{option_map}
use Rattle.irig_gen.specs.Faults.{sent_edge}
use Rattle.irig_gen.specs.Frames.{GeneratorValue}
use Rattle.irig_gen.proofs.GenLaws.{last_edge}
use Rattle.irig_gen.proofs.SameLaws.{at_sent}
use Rattle.irig_gen.proofs.generator.Generator.second_sent.Goals as goal

pub returns : goal.returns
returns c = λ edge sent.
    let g = c.args.self.now in
    let mapped = sym (ap (λ (x : GeneratorValue). option_map last_edge (sent_edge x.fault x.edge x.since)) c.self.view_is) ∙ sym c.edge_sent.ensures ∙ c.in_ok-edge_sent.was in
    c.at.ensures.value ∙ at_sent c.args.timeline.now (sent_edge g.fault g.edge g.since) edge c.in_ok-edge_sent.field-0 sent mapped
