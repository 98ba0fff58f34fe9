use Rattle.std.proofs.Common.{Option, sym, ap, subst, ◌∙◌}
use Rattle.std.specs.Option.{option_map}
use Rattle.irig_gen.specs.declared.fault.GenFault.{GenFault}
use Rattle.irig_gen.specs.Faults.{sent_edge}
use Rattle.irig_gen.specs.Frames.{GeneratorValue, IsFrameOrNone}
use Rattle.irig_gen.specs.Sent.{frame_of_value}
use Rattle.irig_gen.proofs.GenLaws.{sent_from, last_edge}
use Rattle.irig_gen.proofs.SentLaws.{sent_of_by, nothing_sent}
use Rattle.irig_gen.specs.Refusals.{IsGenerator}
use Rattle.irig_gen.proofs.generator.Generator.value.Goals as goal

pub returns-clause-frame : goal.returns-clause-frame
returns-clause-frame c =
    let g = c.args.self.now in
    let t = c.args.timeline.now in
    let o = option_map (frame_of_value g) c.value_by.result in
    let edge = c.in_ok-edge.edge in
    let sent = sym (ap (λ (x : GeneratorValue). option_map last_edge (sent_edge x.fault x.edge x.since)) c.self.view_is) ∙ sym c.edge_sent.ensures ∙ c.in_ok-edge.was in
    let fault = ap (λ (x : GeneratorValue). x.fault) c.self.view_is in
    sent_from g t o (sent_edge g.fault g.edge g.since) edge sent
    (subst (λ (f : Option GenFault). IsFrameOrNone f g t edge o) fault c.value_by.ensures.frame)

pub returns-clause-value : goal.returns-clause-value
returns-clause-value c =
    sent_of_by c.args.self.now c.args.timeline.now _ (subst IsGenerator c.self.view_is c.self.invariant) c.value_by.ensures.sound (returns-clause-frame c)

pub returns-in_err-edge-clause-value : goal.returns-in_err-edge-clause-value
returns-in_err-edge-clause-value c =
    let g = c.args.self.now in
    let sent = sym (ap (λ (x : GeneratorValue). option_map last_edge (sent_edge x.fault x.edge x.since)) c.self.view_is) ∙ sym c.edge_sent.ensures ∙ c.in_err-edge.was in
    ap (option_map (frame_of_value g)) c.from_residual.ensures ∙ sym (nothing_sent g c.args.timeline.now sent)
