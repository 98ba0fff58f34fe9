use Rattle.std.proofs.Common.{◌≡◌, ◌∙◌, ◌<◌, ℕ, Option, Some, None, refl, ap, arith}
use Rattle.irig_reader.proofs.FedLaws.{at_most_five}
use Rattle.irig_lines.specs.declared.setup.ClockRules.{ClockRules}
use Rattle.irig_timekeeper.specs.declared.clock.ClockState.{ClockState}
use Rattle.irig_lines.specs.declared.lines.KeptFrame.{KeptFrame}
use Rattle.irig_timekeeper.specs.declared.states.LineState.{LineState}
use Rattle.irig_timekeeper.specs.declared.states.LineState.TheVariants as is
use Rattle.irig_timekeeper.specs.Keeping.{Keeping}
use Rattle.irig_timekeeper.specs.Life.{device_of, life_of}
use Rattle.irig_timekeeper.specs.LineTruths.{is_untrue}
use Rattle.irig_lines.specs.Lines.{IsTrueLately}
use Rattle.irig_timekeeper.specs.Lived.{made_with}
use Rattle.irig_timekeeper.specs.States.{state_of}
use Rattle.irig_lines.specs.Steps.{line_at}
use Rattle.irig_lines.proofs.LineLaws.{true_by_any}
use Rattle.irig_timekeeper.proofs.LearnLaws.{steps_truly}
use Rattle.irig_timekeeper.proofs.LivedLaws.{as_made}
use Rattle.irig_timekeeper.proofs.StateLaws.{true_line}
use Rattle.c_numbers.specs.Setups.{redundancy_in}
use Rattle.c_keeper.specs.declared.said.IrigLineSaid.{IrigLineSaid}
use Rattle.c_keeper.specs.Lives.{calls_of}
use Rattle.c_keeper.specs.Said.{said_by, said_of}
use Rattle.c_lines.specs.States.{is_untrue_number, number_of}
use Rattle.c_keeper.specs.Timekeepers.{clock_state_in}
use Rattle.c_reader.proofs.timekeeper.irig_c_timekeeper_line.Goals as goal

-- the numbers of these states are those
same_untrue : (state : LineState) → is_untrue_number (number_of state) ≡ is_untrue state
same_untrue is.Silent = refl
same_untrue is.Broken = refl
same_untrue is.Faulty = refl
same_untrue is.Uneven = refl
same_untrue is.Poor = refl
same_untrue is.Unjudged = refl
same_untrue is.Agreed = refl
same_untrue is.Apart = refl
same_untrue is.Differed = refl

said_number : (s : ClockState) (port number : ℕ) (seen : Option KeptFrame) → (said_by s port number seen).state ≡ number
said_number s port number None = refl
said_number s port number (Some frame) = refl

pub returns-clause-of : goal.returns-clause-of
returns-clause-of c k done h =
    c.said_of.ensures
    ∙ (ap (λ (r : ClockRules). said_of r (clock_state_in c.args.timekeeper.now) c.args.line) h.clock ∙ ap (λ (s : ClockState). said_of k.clock s c.args.line) h.state)

pub returns-clause-truth : goal.returns-clause-truth
returns-clause-truth c t edges made start now past done h well order line =
    let q = c.args.timekeeper.now in
    let k : Keeping = life_of (made_with made h.lines h.fresh) (calls_of past) in
    let port = c.is_port.ensures.0 c.if-not-is_port.false in
    let low : c.args.line < 5 = omega (arith, port.1, at_most_five (redundancy_in q.setup)) in
    let clock = (h.is.clock ∙ (as_made (device_of (made_with made h.lines h.fresh)) (calls_of past)).clock) in
    let value = c.said_of.ensures ∙ (ap (λ (r : ClockRules). said_of r (clock_state_in q) c.args.line) clock ∙ ap (λ (s : ClockState). said_of made.clock s c.args.line) h.is.state) in
    ap (λ (x : IrigLineSaid). is_untrue_number x.state) value
    ∙ (ap is_untrue_number (said_number k.state c.args.line (number_of (state_of made.clock k.state c.args.line)) (line_at k.state.lines c.args.line).seen)
    ∙ (same_untrue (state_of made.clock k.state c.args.line)
    ∙ true_line (IsTrueLately made.clock.within.us) t edges (made_with made h.lines h.fresh) start now (calls_of past) (record { is = well.is; learns = well.learns; order = well.order; truth = well.truth })
    (λ now half end pulses claim is frame soon. true_by_any made.clock made.rules t made.clock.drift_us edges half now end pulses claim well.is.steady is frame soon) (steps_truly t edges (made_with made h.lines h.fresh) start (calls_of past) (record { is = well.is; learns = well.learns; order = well.order; truth = well.truth })) order c.args.line low line))
