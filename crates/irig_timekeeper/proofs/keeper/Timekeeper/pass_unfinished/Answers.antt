use Rattle.std.proofs.Common.{◌≡◌, ◌∙◌, refl, ap, arith}
use Rattle.std.proofs.Math.Logic.{∥∥₁_map}
use Rattle.irig_reader.proofs.FedLaws.{at_most_five}
use Rattle.irig_lines.specs.declared.lines.Line.{Line}
use Rattle.irig_lines.specs.Steps.{with_line}
use Rattle.irig_timekeeper.specs.declared.clock.ClockState.{ClockState}
use Rattle.irig_timekeeper.specs.Keeping.{with_lines}
use Rattle.irig_timekeeper.specs.Unfinished.{lines_unfinished}
use Rattle.irig_timekeeper.proofs.UtcLaws.{same_announced}
use Rattle.irig_timekeeper.proofs.keeper.Timekeeper.pass_unfinished.Goals as goal

pub invariant_of-self-clause-valid : goal.invariant_of-self-clause-valid
invariant_of-self-clause-valid g c = ∥∥₁_map c.args.self.now.valid (λ v. record { a = c.pass_on.ensures.valid v.a; b = v.b; c = v.c; d = v.d; e = v.e })

pub invariant_of-self-clause-announced : goal.invariant_of-self-clause-announced
invariant_of-self-clause-announced g c = ∥∥₁_map c.args.self.now.announced (same_announced _ _ refl refl)

pub returns-in-0-clause-after : goal.returns-in-0-clause-after
returns-in-0-clause-after g c =
    let at : c.args.port ≡ 0 = omega arith in
    rw at (ap (with_line c.args.self.now.state.lines 0) c.pass_on.ensures.line)

pub returns-in-0-clause-heard : goal.returns-in-0-clause-heard
returns-in-0-clause-heard g c k s =
    let at : c.args.port ≡ 0 = omega arith in
    rw at (record {
      a = c.pass_on.ensures.heard k.rules k.heard.a s.a;
      b = s.b;
      c = s.c;
      d = s.d;
      e = s.e;
      rules = s.rules;
      clock = s.clock;
      table = s.table;
      state = ap (λ (l : Line). with_lines c.args.self.now.state (with_line c.args.self.now.state.lines 0 l)) c.pass_on.ensures.line
          ∙ ap (λ (y : ClockState). with_lines y (lines_unfinished y.lines 0 c.args.first_us c.args.last_us)) s.state;
    })

pub invariant_of-self-in-1-clause-valid : goal.invariant_of-self-in-1-clause-valid
invariant_of-self-in-1-clause-valid g c = ∥∥₁_map c.args.self.now.valid (λ v. record { a = v.a; b = c.pass_on-in-1.ensures.valid v.b; c = v.c; d = v.d; e = v.e })

pub invariant_of-self-in-1-clause-announced : goal.invariant_of-self-in-1-clause-announced
invariant_of-self-in-1-clause-announced g c = ∥∥₁_map c.args.self.now.announced (same_announced _ _ refl refl)

pub returns-in-1-clause-after : goal.returns-in-1-clause-after
returns-in-1-clause-after g c =
    let at : c.args.port ≡ 1 = omega arith in
    rw at (ap (with_line c.args.self.now.state.lines 1) c.pass_on-in-1.ensures.line)

pub returns-in-1-clause-heard : goal.returns-in-1-clause-heard
returns-in-1-clause-heard g c k s =
    let at : c.args.port ≡ 1 = omega arith in
    rw at (record {
      a = s.a;
      b = c.pass_on-in-1.ensures.heard k.rules k.heard.b s.b;
      c = s.c;
      d = s.d;
      e = s.e;
      rules = s.rules;
      clock = s.clock;
      table = s.table;
      state = ap (λ (l : Line). with_lines c.args.self.now.state (with_line c.args.self.now.state.lines 1 l)) c.pass_on-in-1.ensures.line
          ∙ ap (λ (y : ClockState). with_lines y (lines_unfinished y.lines 1 c.args.first_us c.args.last_us)) s.state;
    })

pub invariant_of-self-in-2-clause-valid : goal.invariant_of-self-in-2-clause-valid
invariant_of-self-in-2-clause-valid g c = ∥∥₁_map c.args.self.now.valid (λ v. record { a = v.a; b = v.b; c = c.pass_on-in-2.ensures.valid v.c; d = v.d; e = v.e })

pub invariant_of-self-in-2-clause-announced : goal.invariant_of-self-in-2-clause-announced
invariant_of-self-in-2-clause-announced g c = ∥∥₁_map c.args.self.now.announced (same_announced _ _ refl refl)

pub returns-in-2-clause-after : goal.returns-in-2-clause-after
returns-in-2-clause-after g c =
    let at : c.args.port ≡ 2 = omega arith in
    rw at (ap (with_line c.args.self.now.state.lines 2) c.pass_on-in-2.ensures.line)

pub returns-in-2-clause-heard : goal.returns-in-2-clause-heard
returns-in-2-clause-heard g c k s =
    let at : c.args.port ≡ 2 = omega arith in
    rw at (record {
      a = s.a;
      b = s.b;
      c = c.pass_on-in-2.ensures.heard k.rules k.heard.c s.c;
      d = s.d;
      e = s.e;
      rules = s.rules;
      clock = s.clock;
      table = s.table;
      state = ap (λ (l : Line). with_lines c.args.self.now.state (with_line c.args.self.now.state.lines 2 l)) c.pass_on-in-2.ensures.line
          ∙ ap (λ (y : ClockState). with_lines y (lines_unfinished y.lines 2 c.args.first_us c.args.last_us)) s.state;
    })

pub invariant_of-self-in-3-clause-valid : goal.invariant_of-self-in-3-clause-valid
invariant_of-self-in-3-clause-valid g c = ∥∥₁_map c.args.self.now.valid (λ v. record { a = v.a; b = v.b; c = v.c; d = c.pass_on-in-3.ensures.valid v.d; e = v.e })

pub invariant_of-self-in-3-clause-announced : goal.invariant_of-self-in-3-clause-announced
invariant_of-self-in-3-clause-announced g c = ∥∥₁_map c.args.self.now.announced (same_announced _ _ refl refl)

pub returns-in-3-clause-after : goal.returns-in-3-clause-after
returns-in-3-clause-after g c =
    let at : c.args.port ≡ 3 = omega arith in
    rw at (ap (with_line c.args.self.now.state.lines 3) c.pass_on-in-3.ensures.line)

pub returns-in-3-clause-heard : goal.returns-in-3-clause-heard
returns-in-3-clause-heard g c k s =
    let at : c.args.port ≡ 3 = omega arith in
    rw at (record {
      a = s.a;
      b = s.b;
      c = s.c;
      d = c.pass_on-in-3.ensures.heard k.rules k.heard.d s.d;
      e = s.e;
      rules = s.rules;
      clock = s.clock;
      table = s.table;
      state = ap (λ (l : Line). with_lines c.args.self.now.state (with_line c.args.self.now.state.lines 3 l)) c.pass_on-in-3.ensures.line
          ∙ ap (λ (y : ClockState). with_lines y (lines_unfinished y.lines 3 c.args.first_us c.args.last_us)) s.state;
    })

pub invariant_of-self-in_default-clause-valid : goal.invariant_of-self-in_default-clause-valid
invariant_of-self-in_default-clause-valid g c = ∥∥₁_map c.args.self.now.valid (λ v. record { a = v.a; b = v.b; c = v.c; d = v.d; e = c.pass_on-in_default.ensures.valid v.e })

pub invariant_of-self-in_default-clause-announced : goal.invariant_of-self-in_default-clause-announced
invariant_of-self-in_default-clause-announced g c = ∥∥₁_map c.args.self.now.announced (same_announced _ _ refl refl)

pub returns-in_default-clause-after : goal.returns-in_default-clause-after
returns-in_default-clause-after g c =
    let at : c.args.port ≡ 4 = omega (arith, c.requires, at_most_five c.args.self.now.clock.redundancy) in
    rw at (ap (with_line c.args.self.now.state.lines 4) c.pass_on-in_default.ensures.line)

pub returns-in_default-clause-heard : goal.returns-in_default-clause-heard
returns-in_default-clause-heard g c k s =
    let at : c.args.port ≡ 4 = omega (arith, c.requires, at_most_five c.args.self.now.clock.redundancy) in
    rw at (record {
      a = s.a;
      b = s.b;
      c = s.c;
      d = s.d;
      e = c.pass_on-in_default.ensures.heard k.rules k.heard.e s.e;
      rules = s.rules;
      clock = s.clock;
      table = s.table;
      state = ap (λ (l : Line). with_lines c.args.self.now.state (with_line c.args.self.now.state.lines 4 l)) c.pass_on-in_default.ensures.line
          ∙ ap (λ (y : ClockState). with_lines y (lines_unfinished y.lines 4 c.args.first_us c.args.last_us)) s.state;
    })
