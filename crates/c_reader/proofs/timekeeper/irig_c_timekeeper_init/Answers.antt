use Rattle.std.proofs.Common.{rules, ℕ, ◌≡◌, ◌∙◌, false, is_some, Option, Some, None, sym, ap, subst, refl, arith, inl}
use Rattle.irig_lines.specs.declared.setup.ClockFault.{ClockFault}
use Rattle.irig_timekeeper.specs.Keeping.{new_state}
use Rattle.irig_lines.specs.Refusals.{clock_fault}
use Rattle.c_numbers.specs.declared.setup.IrigSetup.{IrigSetup}
use Rattle.c_numbers.specs.declared.state.IrigState.{IrigState}
use Rattle.c_numbers.specs.declared.table.IrigTable.{IrigTable}
use Rattle.c_numbers.specs.LeapTables.{table_in}
use Rattle.c_numbers.specs.Setups.{rules_in, reader_rules_in, IsKeeperSetup}
use Rattle.c_keeper.specs.CheckWord.{check_of}
use Rattle.c_lines.specs.Lines.{lines_in}
use Rattle.c_keeper.specs.Lives.{made_in}
use Rattle.c_keeper.specs.declared.timekeeper.IrigWires.{IrigWires}
use Rattle.c_keeper.specs.Timekeepers.{clock_in, vote_limits_in, AreWires}
use Rattle.c_keeper.proofs.LivedLaws.{lived_new}
use Rattle.c_keeper.proofs.ValueLaws.{none_announced, none_small, same_limits}
use Rattle.c_reader.proofs.timekeeper.irig_c_timekeeper_init.Goals as goal

none_of : (o : Option ClockFault) → is_some o ≡ false → o ≡ None
none_of None e = refl
none_of (Some x) e = absurd cc

pub returns-clause-fresh : goal.returns-clause-fresh
unfolding check_of
returns-clause-fresh c done =
    let q = c.forget.new.timekeeper in
    let new = c.forget.ensures in
    let is_setup : IsKeeperSetup c.args.setup.now = search rules in
    let wires : AreWires c.args.wires.now = search rules in
    let steady : clock_fault (reader_rules_in c.args.setup.now) c.args.wires.now.drift_us c.args.wires.now.wander_ppb ≡ None = sym c.fault_of.ensures ∙ none_of c.fault_of.result (sym c.is_some.ensures ∙ c.if-is_some.false) in
    record {
      rules = ap (λ (s : IrigSetup). rules_in s) new.setup;
      clock = refl;
      table = ap (λ (t : IrigTable). table_in t) new.table;
      heard = new.heard;
      state = new.state ∙ ap (λ (s : IrigSetup). new_state (lines_in (Some (vote_limits_in s).limits) (rules_in s) q.lines)) new.setup;
      accepted = record {
        setup = subst (λ (s : IrigSetup). IsKeeperSetup s) (sym new.setup) is_setup;
        wires = subst AreWires (sym new.wires) wires;
        steady = ap (λ (s : IrigSetup). clock_fault (reader_rules_in s) q.wires.drift_us q.wires.wander_ppb) new.setup
            ∙ (ap (λ (w : IrigWires). clock_fault (reader_rules_in c.args.setup.now) w.drift_us w.wander_ppb) new.wires ∙ steady);
        bound = omega (arith, new.bound);
        known = record { interval = inl new.interval; pace = inl new.pace };
        is_state = inl (ap (λ (s : IrigState). s.kind) new.is_state);
        last = none_announced q.last new.last;
        before = none_announced q.before new.before;
        ended = none_small q.ended new.ended;
        ended_before = none_small q.ended_before new.ended_before;
        absent = new.absent _;
        sealed = c.check_of-timekeeper.ensures;
      };
    }

pub returns-clause-exact : goal.returns-clause-exact
returns-clause-exact c done =
    let new = c.forget.ensures in
    let is_setup : IsKeeperSetup c.args.setup.now = search rules in
    let wires : AreWires c.args.wires.now = search rules in
    let same : c.forget.new.timekeeper.wires.within_us ≡ c.args.wires.now.within_us = ap (λ (w : IrigWires). w.within_us) new.wires in
    (omega (arith, same, wires.0, wires.1.0), ap (λ (s : IrigSetup). (vote_limits_in s).limits) new.setup ∙ same_limits c.args.setup.now is_setup)

pub returns-clause-lines : goal.returns-clause-lines
returns-clause-lines c limits rules done = c.forget.ensures.lines limits rules

pub returns-clause-lived : goal.returns-clause-lived
returns-clause-lived c done =
    let q = c.forget.new.timekeeper in
    let new = c.forget.ensures in
    let made = made_in c.args.setup.now c.args.table.now c.args.wires.now in
    let clock : clock_in (record q { check = c.check_of-timekeeper.result }) ≡ made.clock = search rules in
    lived_new _ made _ new.lines clock (returns-clause-fresh c done)
