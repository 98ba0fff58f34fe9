use Rattle.std.proofs.Common.{◌∙◌, sym, ap, arith}
use Rattle.irig_timekeeper.specs.declared.clock.ClockState.{ClockState}
use Rattle.irig_timekeeper.specs.Keeping.{Keeping, stamp_at}
use Rattle.irig_timekeeper.specs.Life.{life_of}
use Rattle.irig_lines.specs.Lines.{IsTrueLately}
use Rattle.irig_timekeeper.specs.Lived.{made_with}
use Rattle.irig_timekeeper.specs.Stamps.{stamp_of}
use Rattle.irig_lines.proofs.LineLaws.{true_by_any}
use Rattle.irig_timekeeper.proofs.RowLaws.{in_a_row, none_lost}
use Rattle.irig_timekeeper.proofs.LearnLaws.{steps_truly}
use Rattle.irig_timekeeper.proofs.StampLaws.{stamped}
use Rattle.irig_timekeeper.proofs.UtcLaws.{announced_valid}
use Rattle.irig_timekeeper.proofs.keeper.Timekeeper.stamp.Goals as goal

pub returns-clause-valid : goal.returns-clause-valid
returns-clause-valid g c =
    let self = c.args.self.now in
    let valid = announced_valid self.state self.announced in
    c.stamp_of.ensures.valid valid.last valid.before

pub returns-clause-truth : goal.returns-clause-truth
returns-clause-truth g c t edges made start time now calls stamp h clock well order past young told =
    let k : Keeping = life_of (made_with made h.lines h.fresh) calls in
    let value = c.stamp_of.ensures.value ∙ (ap (λ (s : ClockState). stamp_of s.last s.before c.args.time_us) h.is.state ∙ ap (stamp_at k) clock) in
    stamped made.rules made.clock made.table h.lines start h.fresh t edges 0 0 0 well.is (omega arith) (omega arith) (IsTrueLately made.clock.within.us made.rules t edges) (omega arith)
    (λ now half end pulses claim is frame soon. true_by_any made.clock made.rules t made.clock.drift_us edges half now end pulses claim well.is.steady is frame soon)
    calls time now order well.truth (steps_truly t edges (made_with made h.lines h.fresh) start calls (record { is = well.is; learns = well.learns; order = well.order; truth = well.truth })) past young stamp (sym value ∙ told)

pub returns-clause-none_lost : goal.returns-clause-none_lost
returns-clause-none_lost g c t edges made start time edge next calls beat then u v h clock well row says says_then none from upto =
    let k : Keeping = life_of (made_with made h.lines h.fresh) calls in
    let value = c.stamp_of.ensures.value ∙ (ap (λ (s : ClockState). stamp_of s.last s.before c.args.time_us) h.is.state ∙ ap (stamp_at k) clock) in
    let near = in_a_row made.rules made.clock made.table h.lines start h.fresh (IsTrueLately made.clock.within.us made.rules t edges) t edges 0 0 well.is (omega arith)
    (λ now half end pulses claim is frame soon. true_by_any made.clock made.rules t made.clock.drift_us edges half now end pulses claim well.is.steady is frame soon)
    calls beat then edge next u well.order well.truth (steps_truly t edges (made_with made h.lines h.fresh) start calls (record { is = well.is; learns = well.learns; order = well.order; truth = well.truth })) row says none in
    let found = none_lost _ calls beat then edge next u v row says says_then time near from upto in
    (found.0, value ∙ found.1)
