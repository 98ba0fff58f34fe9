use Rattle.std.proofs.Common.{◌∙◌, Some, sym, ap, subst, arith, inl}
use Rattle.irig_time.specs.declared.rules.Rules.{Rules}
use Rattle.irig_lines.specs.declared.setup.ClockRules.{ClockRules}
use Rattle.irig_timekeeper.specs.Keeping.{new_state}
use Rattle.c_numbers.specs.declared.setup.IrigSetup.{IrigSetup}
use Rattle.c_numbers.specs.declared.state.IrigState.{IrigState}
use Rattle.c_numbers.specs.declared.table.IrigTable.{IrigTable}
use Rattle.c_numbers.specs.LeapTables.{table_in}
use Rattle.c_numbers.specs.Setups.{rules_in, IsKeeperSetup}
use Rattle.c_lines.specs.Lines.{lines_in}
use Rattle.c_keeper.specs.Timekeepers.{AreWires}
use Rattle.c_keeper.proofs.LivedLaws.{lived_again}
use Rattle.c_keeper.proofs.ValueLaws.{clock_as, none_announced, none_small, steady_as}
use Rattle.c_reader.proofs.timekeeper.irig_c_timekeeper_restart.Goals as goal

pub returns-clause-restarted : goal.returns-clause-restarted
returns-clause-restarted c k h =
    let t = c.args.timekeeper.now in
    let q = c.restart.new.timekeeper in
    let new = c.restart.ensures in
    let rules = ap (λ (s : IrigSetup). rules_in s) new.setup ∙ h.rules in
    let clock = clock_as t q new.setup new.wires ∙ h.clock in
    record {
      rules = rules;
      clock = clock;
      table = ap (λ (x : IrigTable). table_in x) new.table ∙ h.table;
      heard = new.heard;
      state = new.state
          ∙ (ap (λ (r : ClockRules). new_state (lines_in (Some r.limits.limits) (rules_in q.setup) q.lines)) clock
          ∙ ap (λ (r : Rules). new_state (lines_in (Some k.clock.limits.limits) r q.lines)) rules);
      accepted = record {
        setup = subst (λ (s : IrigSetup). IsKeeperSetup s) (sym new.setup) h.accepted.setup;
        wires = subst AreWires (sym new.wires) h.accepted.wires;
        steady = steady_as t q new.setup new.wires h.accepted.steady;
        bound = omega (arith, new.bound);
        known = record { interval = inl new.interval; pace = inl new.pace };
        is_state = inl (ap (λ (s : IrigState). s.kind) new.is_state);
        last = none_announced q.last new.last;
        before = none_announced q.before new.before;
        ended = none_small q.ended new.ended;
        ended_before = none_small q.ended_before new.ended_before;
        absent = new.absent _;
        sealed = new.sealed.1 h.accepted.sealed;
      };
    }

pub returns-clause-lived : goal.returns-clause-lived
returns-clause-lived c made past h = lived_again c.args.timekeeper.now c.restart.new.timekeeper made past c.restart.ensures.lines (returns-clause-restarted c) h
