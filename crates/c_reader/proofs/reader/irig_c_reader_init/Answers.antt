use Rattle.std.proofs.Common.{rules, sym, ap, subst, inl}
use Rattle.c_numbers.specs.declared.setup.IrigSetup.{IrigSetup}
use Rattle.c_numbers.specs.declared.table.IrigTable.{IrigTable}
use Rattle.c_numbers.specs.declared.state.IrigState.{IrigState}
use Rattle.c_numbers.specs.CheckWord.{check_of}
use Rattle.c_numbers.specs.LeapTables.{table_in}
use Rattle.c_numbers.specs.Setups.{limits_in, rules_in, reader_rules_in, redundancy_in, IsSetup}
use Rattle.c_numbers.specs.States.{state_in}
use Rattle.c_reader.proofs.reader.irig_c_reader_init.Goals as goal

pub returns-clause-fresh : goal.returns-clause-fresh
unfolding check_of
returns-clause-fresh c done =
    let setup = c.forget.ensures.setup in
    let state = c.forget.ensures.state in
    let is : IsSetup c.args.setup.now = search rules in
    record {
      rules = ap (λ (x : IrigSetup). rules_in x) setup;
      limits = ap (λ (x : IrigSetup). limits_in x) setup;
      reader_rules = ap (λ (x : IrigSetup). reader_rules_in x) setup;
      table = ap (λ (x : IrigTable). table_in x) c.forget.ensures.table;
      redundancy = ap (λ (x : IrigSetup). redundancy_in x) setup;
      heard = c.forget.ensures.ports;
      state = ap (λ (x : IrigState). state_in x) state;
      setup = subst (λ (x : IrigSetup). IsSetup x) (sym setup) is;
      is_state = inl (ap (λ (x : IrigState). x.kind) state);
      sealed = c.check_of-reader.ensures;
    }
