use Rattle.std.proofs.Common.{rules, ◌≡◌, ◌<◌, ◌∙◌, ℕ, true, sym, ap, subst, arith}
use Rattle.irig_reader.proofs.FedLaws.{at_most_five}
use Rattle.c_numbers.specs.Setups.{redundancy_in}
use Rattle.irig_sync.specs.Sync.{place_of}
use Rattle.irig_lines.specs.declared.setup.ClockRules.{ClockRules}
use Rattle.irig_lines.specs.Delays.{corrected, delay_at}
use Rattle.irig_timekeeper.specs.Keeping.{one_pulse_more}
use Rattle.irig_timekeeper.specs.Life.{device_of}
use Rattle.irig_timekeeper.specs.Lived.{made_with}
use Rattle.irig_lines.specs.Steps.{is_pulse, line_at}
use Rattle.irig_timekeeper.proofs.LivedLaws.{as_made}
use Rattle.c_keeper.specs.Lives.{calls_of}
use Rattle.c_keeper.specs.Timekeepers.{delays_in, IsTimekeeperOf}
use Rattle.c_keeper.proofs.HeardLaws.{place_as}
use Rattle.c_keeper.proofs.LivedLaws.{lived_pulse}
use Rattle.c_reader.proofs.timekeeper.irig_c_timekeeper_hear.Goals as goal

pub returns-then-is_pulse-clause-told : goal.returns-then-is_pulse-clause-told
returns-then-is_pulse-clause-told c there k h =
    let t = c.args.timekeeper.now in
    let is = c.is_port.ensures.0 c.if-not-is_port.false in
    let here : c.args.line < 5 = omega (arith, is.1, at_most_five (redundancy_in t.setup)) in
    let pulse : is_pulse c.args.width_us ≡ true = sym c.is_pulse.ensures ∙ c.if-is_pulse.true in
    let rise : c.corrected-rise_us.result ≡ corrected c.args.rise_us (delay_at (delays_in t.wires.delays) c.args.line) = search rules in
    let same = rise ∙ ap (λ (r : ClockRules). corrected c.args.rise_us (delay_at r.delays c.args.line)) h.clock in
    rw pulse (c.hear_pulse.ensures.place ∙ (place_as t k c.args.line c.corrected-rise_us.result c.args.width_us here h ∙ ap (λ (x : ℕ). place_of (line_at k.state.lines c.args.line).sync x c.args.width_us) same))

pub returns-then-is_pulse-clause-fed : goal.returns-then-is_pulse-clause-fed
returns-then-is_pulse-clause-fed c there k h =
    let t = c.args.timekeeper.now in
    let pulse : is_pulse c.args.width_us ≡ true = sym c.is_pulse.ensures ∙ c.if-is_pulse.true in
    let rise : c.corrected-rise_us.result ≡ corrected c.args.rise_us (delay_at (delays_in t.wires.delays) c.args.line) = search rules in
    let same = rise ∙ ap (λ (r : ClockRules). corrected c.args.rise_us (delay_at r.delays c.args.line)) h.clock in
    rw pulse (subst (λ (x : ℕ). IsTimekeeperOf c.hear_pulse.new.timekeeper (one_pulse_more k c.args.line x c.args.width_us)) same (c.hear_pulse.ensures.fed k h))

pub returns-then-is_pulse-clause-lived : goal.returns-then-is_pulse-clause-lived
returns-then-is_pulse-clause-lived c made past rise there h clock =
    let t = c.args.timekeeper.now in
    let is = c.is_port.ensures.0 c.if-not-is_port.false in
    let here : c.args.line < 5 = omega (arith, is.1, at_most_five (redundancy_in t.setup)) in
    let pulse : is_pulse c.args.width_us ≡ true = sym c.is_pulse.ensures ∙ c.if-is_pulse.true in
    let corrects : c.corrected-rise_us.result ≡ corrected c.args.rise_us (delay_at (delays_in t.wires.delays) c.args.line) = search rules in
    let made_clock = h.is.clock ∙ (as_made (device_of (made_with made h.lines h.fresh)) (calls_of past)).clock in
    let time = corrects ∙ (ap (λ (r : ClockRules). corrected c.args.rise_us (delay_at r.delays c.args.line)) made_clock ∙ clock) in
    lived_pulse t c.hear_pulse.new.timekeeper made past c.args.line c.corrected-rise_us.result rise c.args.width_us c.hear_pulse.result
    (λ k is. rw pulse (c.hear_pulse.ensures.fed k is)) (λ k is. rw pulse (c.hear_pulse.ensures.place ∙ place_as t k c.args.line c.corrected-rise_us.result c.args.width_us here is)) h time
