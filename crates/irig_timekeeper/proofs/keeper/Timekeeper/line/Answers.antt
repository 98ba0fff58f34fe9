use Rattle.std.proofs.Common.{◌∙◌, ◌<◌, sym, ap, subst, arith}
use Rattle.irig_reader.proofs.FedLaws.{at_most_five}
use Rattle.irig_lines.specs.declared.setup.ClockRules.{ClockRules}
use Rattle.irig_timekeeper.specs.declared.clock.ClockState.{ClockState}
use Rattle.irig_timekeeper.specs.declared.states.LineState.{LineState}
use Rattle.irig_timekeeper.specs.Keeping.{Keeping}
use Rattle.irig_timekeeper.specs.Life.{life_of, device_of, last_tick, pulses_on}
use Rattle.irig_lines.specs.Lines.{IsTrueLately}
use Rattle.irig_timekeeper.specs.Lived.{made_with}
use Rattle.irig_timekeeper.specs.States.{state_of}
use Rattle.irig_timekeeper.specs.LineTruths.{is_untrue, IsSaidRightly}
use Rattle.irig_lines.proofs.LineLaws.{true_by_any}
use Rattle.irig_timekeeper.proofs.LivedLaws.{as_made}
use Rattle.irig_timekeeper.proofs.StateLaws.{true_line, said_rightly}
use Rattle.irig_timekeeper.proofs.LearnLaws.{steps_truly}
use Rattle.irig_timekeeper.proofs.keeper.Timekeeper.line.Goals as goal

pub returns-clause-truth : goal.returns-clause-truth
returns-clause-truth g c t edges made start now calls h well order line =
    let clock = h.is.clock ∙ (as_made (device_of (made_with made h.lines h.fresh)) calls).clock in
    let value = c.state_of.ensures ∙ ap (λ (r : ClockRules). state_of r c.args.self.now.state c.args.line) clock ∙ ap (λ (s : ClockState). state_of made.clock s c.args.line) h.is.state in
    let low : c.args.line < 5 = omega (arith, c.requires, at_most_five c.args.self.now.clock.redundancy) in
    ap is_untrue value
    ∙ true_line (IsTrueLately made.clock.within.us) t edges (made_with made h.lines h.fresh) start now calls (record { is = well.is; learns = well.learns; order = well.order; truth = well.truth })
    (λ now half end pulses claim is frame soon. true_by_any made.clock made.rules t made.clock.drift_us edges half now end pulses claim well.is.steady is frame soon) (steps_truly t edges (made_with made h.lines h.fresh) start calls (record { is = well.is; learns = well.learns; order = well.order; truth = well.truth })) order c.args.line low line

pub returns-clause-said : goal.returns-clause-said
returns-clause-said g c t edges made start now calls h well order =
    let k : Keeping = life_of (made_with made h.lines h.fresh) calls in
    let clock = h.is.clock ∙ (as_made (device_of (made_with made h.lines h.fresh)) calls).clock in
    let value = c.state_of.ensures ∙ ap (λ (r : ClockRules). state_of r c.args.self.now.state c.args.line) clock ∙ ap (λ (s : ClockState). state_of made.clock s c.args.line) h.is.state in
    let low : c.args.line < 5 = omega (arith, c.requires, at_most_five c.args.self.now.clock.redundancy) in
    subst (λ (s : ClockState). IsSaidRightly made.clock s made.rules t edges (last_tick start calls) (pulses_on c.args.line calls) c.state_of.result) (sym h.is.state)
    (subst (λ (x : LineState). IsSaidRightly made.clock k.state made.rules t edges (last_tick start calls) (pulses_on c.args.line calls) x) (sym value)
    (said_rightly (IsTrueLately made.clock.within.us) t edges (made_with made h.lines h.fresh) start now calls (record { is = well.is; learns = well.learns; order = well.order; truth = well.truth })
    (λ now half end pulses claim is frame soon. true_by_any made.clock made.rules t made.clock.drift_us edges half now end pulses claim well.is.steady is frame soon) (steps_truly t edges (made_with made h.lines h.fresh) start calls (record { is = well.is; learns = well.learns; order = well.order; truth = well.truth })) order c.args.line low))
