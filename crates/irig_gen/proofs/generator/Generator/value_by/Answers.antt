use Rattle.std.proofs.Common.{◌≡◌, ◌≤◌, ℤ, ap, List, Option, Some, None, MatchOption, sym, subst, ◌∙◌, unsigned_abs}
use Rattle.std.specs.Option.{option_map}
use Rattle.irig_control.specs.Control.{IsControl}
use Rattle.irig_frame.specs.declared.symbol.Symbol.{Symbol}
use Rattle.irig_time.specs.declared.second.UtcSecond.{UtcSecond}
use Rattle.irig_time.specs.Timelines.{IsSecond}
use Rattle.irig_gen.specs.Frames.{GeneratorValue, gen, IsFrameWithFault}
use Rattle.irig_gen.specs.Sent.{frame_of_value}
use Rattle.irig_control.proofs.ControlLaws.{in_byte}
use Rattle.irig_gen.proofs.GenLaws.{changes_ordered, sent_zone_fits, control_fits, frame_at_is, faulted_fits}
use Rattle.irig_gen.proofs.SentLaws.{frame_of_by, no_frame}
use Rattle.irig_gen.specs.Refusals.{IsGenerator}
use Rattle.irig_gen.proofs.generator.Generator.value_by.Goals as goal

pub zone_at-zone-requires : goal.zone_at-zone-requires
zone_at-zone-requires c =
    let i = c.self.inside in
    changes_ordered (gen i.zone i.changes.items i.rules i.edge i.fault i.since) _ c.self.invariant c.deref.ensures.value

pub control_at-control-requires-clause-order : goal.control_at-control-requires-clause-order
control_at-control-requires-clause-order c =
    let i = c.self.inside in
    changes_ordered (gen i.zone i.changes.items i.rules i.edge i.fault i.since) _ c.self.invariant c.deref-2.ensures.value

pub control_at-control-requires-clause-zone : goal.control_at-control-requires-clause-zone
control_at-control-requires-clause-zone c =
    let i = c.self.inside in
    sent_zone_fits (gen i.zone i.changes.items i.rules i.edge i.fault i.since) _ c.in_ok-utc.utc c.zone_at-zone.result c.self.invariant c.deref.ensures.value c.zone_at-zone.ensures

pub value_of_second-requires-clause-local : goal.value_of_second-requires-clause-local
value_of_second-requires-clause-local c =
    let i = c.self.inside in
    let small = sent_zone_fits (gen i.zone i.changes.items i.rules i.edge i.fault i.since) _ c.in_ok-utc.utc c.zone_at-zone.result c.self.invariant c.deref.ensures.value c.zone_at-zone.ensures in
    subst (λ (h : ℤ). unsigned_abs h ≤ 31) (sym (in_byte c.zone_at-zone.result.half_hours small)) small

pub value_of_second-requires-clause-control : goal.value_of_second-requires-clause-control
value_of_second-requires-clause-control c =
    let i = c.self.inside in
    let small = sent_zone_fits (gen i.zone i.changes.items i.rules i.edge i.fault i.since) _ c.in_ok-utc.utc c.zone_at-zone.result c.self.invariant c.deref.ensures.value c.zone_at-zone.ensures in
    let k = subst IsControl (sym c.control_at-control.ensures) (control_fits i.rules.sense c.zone_at-zone.result c.deref-2.result.now c.leap-leap.result c.in_ok-utc.utc small) in
    subst IsControl (sym c.control_with_fault-sent.ensures) (faulted_fits c.args.fault c.control_at-control.result k)

pub returns-clause-frame : goal.returns-clause-frame
returns-clause-frame c =
    let i = c.self.inside in
    let u = c.in_ok-utc.utc in
    let z = c.zone_at-zone.result in
    let g = gen i.zone i.changes.items i.rules i.edge i.fault i.since in
    let small = sent_zone_fits g _ u z c.self.invariant c.deref.ensures.value c.zone_at-zone.ensures in
    let coded = c.value_of_second.result in
    let is = frame_at_is g c.args.self.now c.args.timeline.now c.args.edge u (frame_of_value g coded) _ z c.control_at-control.result c.deref.result.now c.deref-2.result.now c.leap-leap.result
    c.self.view_is ((c.at.ensures.second u).0 c.in_ok-utc.was) c.deref.ensures.value c.deref-2.ensures.value c.zone_at-zone.ensures (in_byte z.half_hours small)
    c.leap-leap.ensures c.control_at-control.ensures c.args.fault c.control_with_fault-sent.result c.control_with_fault-sent.ensures (c.value_of_second.ensures.frame i.rules.parity) in
    subst (λ (x : GeneratorValue). IsFrameWithFault c.args.fault c.args.self.now c.args.timeline.now c.args.edge (frame_of_value x coded)) c.self.view_is is

pub returns-in_err-utc-clause-frame : goal.returns-in_err-utc-clause-frame
returns-in_err-utc-clause-frame c =
    subst (λ (o : Option (List Symbol)). MatchOption o ((u : UtcSecond) → ¬ IsSecond c.args.timeline.now c.args.edge u) (IsFrameWithFault c.args.fault c.args.self.now c.args.timeline.now c.args.edge))
    (sym (ap (option_map (frame_of_value c.args.self.now)) c.from_residual.ensures))
    (λ u h.
    let some : c.at.result ≡ Some u = (c.at.ensures.second u).1 h in
    let none : c.at.result ≡ None = c.in_err-utc.was in
    cc)

pub returns-clause-value : goal.returns-clause-value
returns-clause-value c =
    frame_of_by c.args.fault c.args.self.now c.args.timeline.now c.args.edge _ (subst IsGenerator c.self.view_is c.self.invariant) c.at.ensures.sound (returns-clause-frame c)

pub returns-in_err-utc-clause-value : goal.returns-in_err-utc-clause-value
returns-in_err-utc-clause-value c =
    let none : c.at.result ≡ None = c.in_err-utc.was in
    ap (option_map (frame_of_value c.args.self.now)) c.from_residual.ensures ∙ sym (no_frame c.args.fault c.args.self.now c.args.timeline.now c.args.edge (sym c.at.ensures.value ∙ none))
