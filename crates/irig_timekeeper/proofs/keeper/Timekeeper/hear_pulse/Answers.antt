use Rattle.std.proofs.Common.{◌≡◌, ◌∙◌, ℕ, refl, sym, ap, arith, subst, Some}
use Rattle.std.proofs.Math.Logic.{∥∥₁_map}
use Rattle.irig_sync.specs.Sync.{place_of}
use Rattle.irig_port.specs.Limits.{told_within, quality_in}
use Rattle.irig_port.specs.Hearing.{heard_at}
use Rattle.irig_reader.proofs.FedLaws.{at_most_five}
use Rattle.irig_lines.specs.declared.lines.Line.{Line}
use Rattle.irig_lines.specs.declared.setup.ClockRules.{ClockRules}
use Rattle.irig_lines.specs.Steps.{line_heard, with_line}
use Rattle.irig_lines.proofs.ValidLines.{all_valid}
use Rattle.irig_timekeeper.specs.declared.clock.ClockState.{ClockState}
use Rattle.irig_timekeeper.specs.Keeping.{Keeping, with_lines}
use Rattle.irig_timekeeper.proofs.TickLaws.{pulse_by}
use Rattle.irig_timekeeper.proofs.UtcLaws.{same_announced}
use Rattle.irig_timekeeper.proofs.keeper.Timekeeper.hear_pulse.Goals as goal

pub hear_line-requires-clause-valid : goal.hear_line-requires-clause-valid
hear_line-requires-clause-valid g c = (all_valid c.args.self.now.state.lines c.args.self.now.valid).a

pub invariant_of-self-clause-valid : goal.invariant_of-self-clause-valid
invariant_of-self-clause-valid g c = ∥∥₁_map c.args.self.now.valid (λ v. record { a = c.hear_line.ensures.valid; b = v.b; c = v.c; d = v.d; e = v.e })

pub invariant_of-self-clause-announced : goal.invariant_of-self-clause-announced
invariant_of-self-clause-announced g c = ∥∥₁_map c.args.self.now.announced (same_announced _ _ refl refl)

pub returns-in-0-clause-heard : goal.returns-in-0-clause-heard
returns-in-0-clause-heard g c k s =
    let at : c.args.port ≡ 0 = omega arith in
    let heard = heard_at c.hear_line.result k.heard.a c.args.width_us in
    let told = told_within (Some k.clock.limits.limits) k.rules heard in
    let same : c.args.self.now.state.lines.a ≡ k.state.lines.a = ap (λ (y : ClockState). y.lines.a) s.state in
    let place : c.hear_line.result ≡ place_of k.state.lines.a.sync c.args.rise_us c.args.width_us =
    c.hear_line.ensures.place ∙ ap (λ (l : Line). place_of l.sync c.args.rise_us c.args.width_us) same in
    let line : c.hear_line.new.line ≡ line_heard k.clock k.state.lines.a c.args.rise_us c.args.width_us told (quality_in heard) =
    c.hear_line.ensures.line k.rules k.heard.a s.a s.rules
    ∙ ap (λ (y : ClockRules). line_heard y c.args.self.now.state.lines.a c.args.rise_us c.args.width_us (told_within (Some y.limits.limits) k.rules heard) (quality_in heard)) s.clock
    ∙ ap (λ (l : Line). line_heard k.clock l c.args.rise_us c.args.width_us told (quality_in heard)) same in
    let then = pulse_by k 0 c.args.rise_us c.args.width_us c.hear_line.result place in
    rw at (record {
      a = subst (λ (n : ℕ). g.P.Port.stands_for c.hear_line.new.port k.rules (heard_at n k.heard.a c.args.width_us)) place (c.hear_line.ensures.heard k.rules k.heard.a s.a);
      b = s.b;
      c = s.c;
      d = s.d;
      e = s.e;
      rules = s.rules;
      clock = s.clock;
      table = s.table;
      state = ap (λ (y : ClockState). with_lines y (with_line y.lines 0 c.hear_line.new.line)) s.state
          ∙ ap (λ (l : Line). with_lines k.state (with_line k.state.lines 0 l)) line ∙ ap (λ (y : Keeping). y.state) then;
    })

pub hear_line-requires-in-1-clause-valid : goal.hear_line-requires-in-1-clause-valid
hear_line-requires-in-1-clause-valid g c = (all_valid c.args.self.now.state.lines c.args.self.now.valid).b

pub invariant_of-self-in-1-clause-valid : goal.invariant_of-self-in-1-clause-valid
invariant_of-self-in-1-clause-valid g c = ∥∥₁_map c.args.self.now.valid (λ v. record { a = v.a; b = c.hear_line-in-1.ensures.valid; c = v.c; d = v.d; e = v.e })

pub invariant_of-self-in-1-clause-announced : goal.invariant_of-self-in-1-clause-announced
invariant_of-self-in-1-clause-announced g c = ∥∥₁_map c.args.self.now.announced (same_announced _ _ refl refl)

pub returns-in-1-clause-heard : goal.returns-in-1-clause-heard
returns-in-1-clause-heard g c k s =
    let at : c.args.port ≡ 1 = omega arith in
    let heard = heard_at c.hear_line-in-1.result k.heard.b c.args.width_us in
    let told = told_within (Some k.clock.limits.limits) k.rules heard in
    let same : c.args.self.now.state.lines.b ≡ k.state.lines.b = ap (λ (y : ClockState). y.lines.b) s.state in
    let place : c.hear_line-in-1.result ≡ place_of k.state.lines.b.sync c.args.rise_us c.args.width_us =
    c.hear_line-in-1.ensures.place ∙ ap (λ (l : Line). place_of l.sync c.args.rise_us c.args.width_us) same in
    let line : c.hear_line-in-1.new.line ≡ line_heard k.clock k.state.lines.b c.args.rise_us c.args.width_us told (quality_in heard) =
    c.hear_line-in-1.ensures.line k.rules k.heard.b s.b s.rules
    ∙ ap (λ (y : ClockRules). line_heard y c.args.self.now.state.lines.b c.args.rise_us c.args.width_us (told_within (Some y.limits.limits) k.rules heard) (quality_in heard)) s.clock
    ∙ ap (λ (l : Line). line_heard k.clock l c.args.rise_us c.args.width_us told (quality_in heard)) same in
    let then = pulse_by k 1 c.args.rise_us c.args.width_us c.hear_line-in-1.result place in
    rw at (record {
      a = s.a;
      b = subst (λ (n : ℕ). g.P.Port.stands_for c.hear_line-in-1.new.port k.rules (heard_at n k.heard.b c.args.width_us)) place (c.hear_line-in-1.ensures.heard k.rules k.heard.b s.b);
      c = s.c;
      d = s.d;
      e = s.e;
      rules = s.rules;
      clock = s.clock;
      table = s.table;
      state = ap (λ (y : ClockState). with_lines y (with_line y.lines 1 c.hear_line-in-1.new.line)) s.state
          ∙ ap (λ (l : Line). with_lines k.state (with_line k.state.lines 1 l)) line ∙ ap (λ (y : Keeping). y.state) then;
    })

pub hear_line-requires-in-2-clause-valid : goal.hear_line-requires-in-2-clause-valid
hear_line-requires-in-2-clause-valid g c = (all_valid c.args.self.now.state.lines c.args.self.now.valid).c

pub invariant_of-self-in-2-clause-valid : goal.invariant_of-self-in-2-clause-valid
invariant_of-self-in-2-clause-valid g c = ∥∥₁_map c.args.self.now.valid (λ v. record { a = v.a; b = v.b; c = c.hear_line-in-2.ensures.valid; d = v.d; e = v.e })

pub invariant_of-self-in-2-clause-announced : goal.invariant_of-self-in-2-clause-announced
invariant_of-self-in-2-clause-announced g c = ∥∥₁_map c.args.self.now.announced (same_announced _ _ refl refl)

pub returns-in-2-clause-heard : goal.returns-in-2-clause-heard
returns-in-2-clause-heard g c k s =
    let at : c.args.port ≡ 2 = omega arith in
    let heard = heard_at c.hear_line-in-2.result k.heard.c c.args.width_us in
    let told = told_within (Some k.clock.limits.limits) k.rules heard in
    let same : c.args.self.now.state.lines.c ≡ k.state.lines.c = ap (λ (y : ClockState). y.lines.c) s.state in
    let place : c.hear_line-in-2.result ≡ place_of k.state.lines.c.sync c.args.rise_us c.args.width_us =
    c.hear_line-in-2.ensures.place ∙ ap (λ (l : Line). place_of l.sync c.args.rise_us c.args.width_us) same in
    let line : c.hear_line-in-2.new.line ≡ line_heard k.clock k.state.lines.c c.args.rise_us c.args.width_us told (quality_in heard) =
    c.hear_line-in-2.ensures.line k.rules k.heard.c s.c s.rules
    ∙ ap (λ (y : ClockRules). line_heard y c.args.self.now.state.lines.c c.args.rise_us c.args.width_us (told_within (Some y.limits.limits) k.rules heard) (quality_in heard)) s.clock
    ∙ ap (λ (l : Line). line_heard k.clock l c.args.rise_us c.args.width_us told (quality_in heard)) same in
    let then = pulse_by k 2 c.args.rise_us c.args.width_us c.hear_line-in-2.result place in
    rw at (record {
      a = s.a;
      b = s.b;
      c = subst (λ (n : ℕ). g.P.Port.stands_for c.hear_line-in-2.new.port k.rules (heard_at n k.heard.c c.args.width_us)) place (c.hear_line-in-2.ensures.heard k.rules k.heard.c s.c);
      d = s.d;
      e = s.e;
      rules = s.rules;
      clock = s.clock;
      table = s.table;
      state = ap (λ (y : ClockState). with_lines y (with_line y.lines 2 c.hear_line-in-2.new.line)) s.state
          ∙ ap (λ (l : Line). with_lines k.state (with_line k.state.lines 2 l)) line ∙ ap (λ (y : Keeping). y.state) then;
    })

pub hear_line-requires-in-3-clause-valid : goal.hear_line-requires-in-3-clause-valid
hear_line-requires-in-3-clause-valid g c = (all_valid c.args.self.now.state.lines c.args.self.now.valid).d

pub invariant_of-self-in-3-clause-valid : goal.invariant_of-self-in-3-clause-valid
invariant_of-self-in-3-clause-valid g c = ∥∥₁_map c.args.self.now.valid (λ v. record { a = v.a; b = v.b; c = v.c; d = c.hear_line-in-3.ensures.valid; e = v.e })

pub invariant_of-self-in-3-clause-announced : goal.invariant_of-self-in-3-clause-announced
invariant_of-self-in-3-clause-announced g c = ∥∥₁_map c.args.self.now.announced (same_announced _ _ refl refl)

pub returns-in-3-clause-heard : goal.returns-in-3-clause-heard
returns-in-3-clause-heard g c k s =
    let at : c.args.port ≡ 3 = omega arith in
    let heard = heard_at c.hear_line-in-3.result k.heard.d c.args.width_us in
    let told = told_within (Some k.clock.limits.limits) k.rules heard in
    let same : c.args.self.now.state.lines.d ≡ k.state.lines.d = ap (λ (y : ClockState). y.lines.d) s.state in
    let place : c.hear_line-in-3.result ≡ place_of k.state.lines.d.sync c.args.rise_us c.args.width_us =
    c.hear_line-in-3.ensures.place ∙ ap (λ (l : Line). place_of l.sync c.args.rise_us c.args.width_us) same in
    let line : c.hear_line-in-3.new.line ≡ line_heard k.clock k.state.lines.d c.args.rise_us c.args.width_us told (quality_in heard) =
    c.hear_line-in-3.ensures.line k.rules k.heard.d s.d s.rules
    ∙ ap (λ (y : ClockRules). line_heard y c.args.self.now.state.lines.d c.args.rise_us c.args.width_us (told_within (Some y.limits.limits) k.rules heard) (quality_in heard)) s.clock
    ∙ ap (λ (l : Line). line_heard k.clock l c.args.rise_us c.args.width_us told (quality_in heard)) same in
    let then = pulse_by k 3 c.args.rise_us c.args.width_us c.hear_line-in-3.result place in
    rw at (record {
      a = s.a;
      b = s.b;
      c = s.c;
      d = subst (λ (n : ℕ). g.P.Port.stands_for c.hear_line-in-3.new.port k.rules (heard_at n k.heard.d c.args.width_us)) place (c.hear_line-in-3.ensures.heard k.rules k.heard.d s.d);
      e = s.e;
      rules = s.rules;
      clock = s.clock;
      table = s.table;
      state = ap (λ (y : ClockState). with_lines y (with_line y.lines 3 c.hear_line-in-3.new.line)) s.state
          ∙ ap (λ (l : Line). with_lines k.state (with_line k.state.lines 3 l)) line ∙ ap (λ (y : Keeping). y.state) then;
    })

pub hear_line-requires-in_default-clause-valid : goal.hear_line-requires-in_default-clause-valid
hear_line-requires-in_default-clause-valid g c = (all_valid c.args.self.now.state.lines c.args.self.now.valid).e

pub invariant_of-self-in_default-clause-valid : goal.invariant_of-self-in_default-clause-valid
invariant_of-self-in_default-clause-valid g c = ∥∥₁_map c.args.self.now.valid (λ v. record { a = v.a; b = v.b; c = v.c; d = v.d; e = c.hear_line-in_default.ensures.valid })

pub invariant_of-self-in_default-clause-announced : goal.invariant_of-self-in_default-clause-announced
invariant_of-self-in_default-clause-announced g c = ∥∥₁_map c.args.self.now.announced (same_announced _ _ refl refl)

pub returns-in_default-clause-heard : goal.returns-in_default-clause-heard
returns-in_default-clause-heard g c k s =
    let at : c.args.port ≡ 4 = omega (arith, c.requires, at_most_five c.args.self.now.clock.redundancy) in
    let heard = heard_at c.hear_line-in_default.result k.heard.e c.args.width_us in
    let told = told_within (Some k.clock.limits.limits) k.rules heard in
    let same : c.args.self.now.state.lines.e ≡ k.state.lines.e = ap (λ (y : ClockState). y.lines.e) s.state in
    let place : c.hear_line-in_default.result ≡ place_of k.state.lines.e.sync c.args.rise_us c.args.width_us =
    c.hear_line-in_default.ensures.place ∙ ap (λ (l : Line). place_of l.sync c.args.rise_us c.args.width_us) same in
    let line : c.hear_line-in_default.new.line ≡ line_heard k.clock k.state.lines.e c.args.rise_us c.args.width_us told (quality_in heard) =
    c.hear_line-in_default.ensures.line k.rules k.heard.e s.e s.rules
    ∙ ap (λ (y : ClockRules). line_heard y c.args.self.now.state.lines.e c.args.rise_us c.args.width_us (told_within (Some y.limits.limits) k.rules heard) (quality_in heard)) s.clock
    ∙ ap (λ (l : Line). line_heard k.clock l c.args.rise_us c.args.width_us told (quality_in heard)) same in
    let then = pulse_by k 4 c.args.rise_us c.args.width_us c.hear_line-in_default.result place in
    rw at (record {
      a = s.a;
      b = s.b;
      c = s.c;
      d = s.d;
      e = subst (λ (n : ℕ). g.P.Port.stands_for c.hear_line-in_default.new.port k.rules (heard_at n k.heard.e c.args.width_us)) place (c.hear_line-in_default.ensures.heard k.rules k.heard.e s.e);
      rules = s.rules;
      clock = s.clock;
      table = s.table;
      state = ap (λ (y : ClockState). with_lines y (with_line y.lines 4 c.hear_line-in_default.new.line)) s.state
          ∙ ap (λ (l : Line). with_lines k.state (with_line k.state.lines 4 l)) line ∙ ap (λ (y : Keeping). y.state) then;
    })
