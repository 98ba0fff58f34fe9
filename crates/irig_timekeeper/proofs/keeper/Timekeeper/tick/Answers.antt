use Rattle.std.proofs.Common.{◌≡◌, false, ◌∙◌, ◌∷◌, sym, ap, arith}
use Rattle.irig_time.specs.Tables.{TableValue}
use Rattle.irig_lines.specs.declared.setup.ClockRules.{ClockRules}
use Rattle.irig_timekeeper.specs.declared.clock.ClockState.{ClockState}
use Rattle.irig_timekeeper.specs.Clock.{clock_answer, is_unsteady}
use Rattle.irig_timekeeper.specs.Keeping.{Keeping, answer_at}
use Rattle.irig_timekeeper.specs.Life.{life_of, LivesTruly}
use Rattle.irig_timekeeper.specs.Life.Call.{Tick}
use Rattle.irig_lines.specs.Lines.{IsTrueLately}
use Rattle.irig_timekeeper.specs.Lived.{made_with}
use Rattle.irig_timekeeper.proofs.LifeLaws.{device_true}
use Rattle.irig_lines.proofs.LineLaws.{true_by_any}
use Rattle.irig_timekeeper.proofs.LearnLaws.{steps_truly}
use Rattle.irig_timekeeper.proofs.StrayLaws.{never_doubts, never_unsteady}
use Rattle.irig_timekeeper.proofs.DoubtLaws.{says_rule}
use Rattle.irig_timekeeper.proofs.GuardedTicks.{tick_guards_vote}
use Rattle.irig_lines.proofs.ValidLines.{all_valid}
use Rattle.std.proofs.Math.Logic.{∥∥₁_map}
use Rattle.irig_timekeeper.proofs.keeper.Timekeeper.tick.Goals as goal

pub tick-requires-clause-valid : goal.tick-requires-clause-valid
tick-requires-clause-valid g c = all_valid c.args.self.now.state.lines c.args.self.now.valid

pub returns-clause-life : goal.returns-clause-life
returns-clause-life g c t edges made start now calls beat u h clock well told says =
    let self = c.args.self.now in
    let k : Keeping = life_of (made_with made h.lines h.fresh) calls in
    let lives : LivesTruly (IsTrueLately made.clock.within.us) t edges (made_with made h.lines h.fresh) start (Tick now ∷ calls) = record { is = well.is; learns = well.learns; order = well.order; truth = well.truth } in
    let value = c.tick.ensures.answer
    ∙ (ap (λ (rules : ClockRules). clock_answer rules self.table self.state c.args.now_us) h.is.clock
    ∙ (ap (λ (table : TableValue). clock_answer k.clock table self.state c.args.now_us) h.is.table
    ∙ (ap (λ (s : ClockState). clock_answer k.clock k.table s c.args.now_us) h.is.state ∙ ap (answer_at k) clock))) in
    device_true made.rules made.clock made.table h.lines start h.fresh (IsTrueLately made.clock.within.us made.rules t edges) t edges 0 0 well.is (omega arith)
    (λ now half end pulses claim is frame soon. true_by_any made.clock made.rules t made.clock.drift_us edges half now end pulses claim well.is.steady is frame soon)
    calls now beat u well.order well.truth (steps_truly t edges (made_with made h.lines h.fresh) start (Tick now ∷ calls) lives) (sym value ∙ told) says

pub returns-clause-rule : goal.returns-clause-rule
returns-clause-rule g c t edges made start now calls beat h clock well told k is =
    let self = c.args.self.now in
    let device = made_with made h.lines h.fresh in
    let value = c.tick.ensures.answer
    ∙ (ap (λ (rules : ClockRules). clock_answer rules self.table self.state c.args.now_us) is.clock
    ∙ (ap (λ (table : TableValue). clock_answer k.clock table self.state c.args.now_us) is.table
    ∙ ap (λ (s : ClockState). clock_answer k.clock k.table s c.args.now_us) is.state)) in
    let lives : LivesTruly (IsTrueLately made.clock.within.us) t edges device start (Tick now ∷ calls) = record { is = well.is; learns = well.learns; order = well.order; truth = well.truth } in
    let same : (life_of device calls).state ≡ k.state = sym h.is.state ∙ is.state in
    let certain = ap (λ (s : ClockState). s.doubt) (sym same) ∙ never_doubts t edges device start calls (record { is = well.is; learns = well.learns; order = well.order.3; truth = well.truth.1 }) in
    let steady : is_unsteady k.clock k.state c.args.now_us ≡ false =
    ap (λ (rules : ClockRules). is_unsteady rules k.state c.args.now_us) (sym is.clock ∙ h.is.clock)
    ∙ ap (λ (s : ClockState). is_unsteady (life_of device calls).clock s c.args.now_us) (sym same)
    ∙ ap (is_unsteady (life_of device calls).clock (life_of device calls).state) clock
    ∙ never_unsteady t edges device start calls now lives in
    says_rule k c.args.now_us beat certain steady (sym value ∙ told)

pub returns-clause-guarded : goal.returns-clause-guarded
returns-clause-guarded g c t n vote beat u sound guards told says k is voted at knows =
    let self = c.args.self.now in
    let value = c.tick.ensures.answer
    ∙ (ap (λ (rules : ClockRules). clock_answer rules self.table self.state c.args.now_us) is.clock
    ∙ (ap (λ (table : TableValue). clock_answer k.clock table self.state c.args.now_us) is.table
    ∙ ap (λ (s : ClockState). clock_answer k.clock k.table s c.args.now_us) is.state)) in
    tick_guards_vote k c.args.now_us beat (sym value ∙ told) t sound (ap (λ (rules : ClockRules). rules.prefers_frames) (sym is.clock) ∙ guards) n u says vote voted at knows

pub invariant_of-self-clause-announced : goal.invariant_of-self-clause-announced
invariant_of-self-clause-announced g c = ∥∥₁_map c.args.self.now.announced c.tick.ensures.announced
