use Rattle.std.proofs.Common.{◌≡◌, ◌∙◌, ℕ, ◌%◌, ◌^◌, true, sym, ap, subst, w16, rules}
use mir.Val.{SFits}
use Rattle.std.proofs.lemmas.Int.{to_z-of_z}
use Rattle.irig_lines.specs.declared.setup.ClockRules.{ClockRules}
use Rattle.irig_lines.specs.Delays.{corrected, delay_at}
use Rattle.irig_lines.specs.Steps.{is_pulse}
use Rattle.irig_timekeeper.specs.Keeping.{Keeping, one_pulse_more, after_pulse}
use Rattle.irig_timekeeper.specs.Keepers.{IsKeeping}
use Rattle.irig_timekeeper.specs.Life.{device_of, life_of}
use Rattle.irig_timekeeper.specs.Lived.{made_with}
use Rattle.irig_timekeeper.proofs.LivedLaws.{as_made}
use Rattle.irig_timekeeper.proofs.keeper.Timekeeper.hear.Goals as goal

pub returns-then-is_pulse-clause-heard : goal.returns-then-is_pulse-clause-heard
returns-then-is_pulse-clause-heard g c k s =
    let narrow : is_pulse c.args.width_us ≡ true = sym c.is_pulse.ensures ∙ c.if-is_pulse.true in
    let late = c.delay_at.ensures ∙ ap (λ (rules : ClockRules). delay_at rules.delays c.args.line) s.clock in
    let fits : SFits w16 c.delay_at.result = search rules in
    let rise = c.corrected-rise_us.ensures ∙ ap (corrected c.args.rise_us) (to_z-of_z w16 c.delay_at.result fits ∙ late) in
    rw narrow (subst (λ (r : ℕ). IsKeeping c.hear_pulse.new.self (one_pulse_more k c.args.line r c.args.width_us)) rise (c.hear_pulse.ensures.heard k s))

pub returns-then-is_pulse-clause-lived : goal.returns-then-is_pulse-clause-lived
returns-then-is_pulse-clause-lived g c made calls rise h at =
    let k : Keeping = life_of (made_with made h.lines h.fresh) calls in
    let same = as_made (device_of (made_with made h.lines h.fresh)) calls in
    let there : corrected c.args.rise_us (delay_at k.clock.delays c.args.line) ≡ rise % 2 ^ 32 = ap (λ (rules : ClockRules). corrected c.args.rise_us (delay_at rules.delays c.args.line)) same.clock ∙ at in
    record {
      lines = h.lines;
      fresh = h.fresh;
      none = h.none;
      is = subst (λ (r : ℕ). IsKeeping c.hear_pulse.new.self (after_pulse k c.args.line r c.args.width_us)) there (returns-then-is_pulse-clause-heard g c k h.is);
    }
