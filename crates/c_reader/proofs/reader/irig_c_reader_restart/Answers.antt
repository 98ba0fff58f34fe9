use Rattle.std.proofs.Common.{rules, ◌≡◌, ◌+◌, ◌%◌, ◌<◌, ◌∙◌, ℕ, sym, ap, subst, inl}
use Rattle.c_numbers.specs.declared.setup.IrigSetup.{IrigSetup}
use Rattle.c_numbers.specs.declared.table.IrigTable.{IrigTable}
use Rattle.c_numbers.specs.declared.state.IrigState.{IrigState}
use Rattle.c_numbers.specs.CheckWord.{check_of, setup_numbers, table_numbers, weighted}
use Rattle.c_numbers.specs.LeapTables.{table_in}
use Rattle.c_numbers.specs.Setups.{limits_in, rules_in, reader_rules_in, redundancy_in, IsSetup}
use Rattle.c_numbers.specs.States.{state_in}
use Rattle.c_numbers.proofs.PortSums.{resealed}
use Rattle.c_reader.proofs.reader.irig_c_reader_restart.Goals as goal

pub returns-clause-sealed : goal.returns-clause-sealed
returns-clause-sealed c =
    let r = c.args.reader.now in
    let fits : r.check < 18446744073709551616 = search rules in
    let fixed : ℕ = weighted 3 (setup_numbers r.setup) + weighted 19 (table_numbers r.table) in
    let b : ℕ = c.changing_sum-before.result in
    let a : ℕ = c.changing_sum-after.result in
    let was : check_of r ≡ (fixed + b) % 18446744073709551616 = c.changing_sum-before.ensures in
    let is : check_of c.forget.new.reader ≡ (fixed + a) % 18446744073709551616 =
    subst (λ (x : IrigSetup). check_of c.forget.new.reader ≡ (weighted 3 (setup_numbers x) + weighted 19 (table_numbers r.table) + a) % 18446744073709551616) c.forget.ensures.setup
    (subst (λ (x : IrigTable). check_of c.forget.new.reader ≡ (weighted 3 (setup_numbers c.forget.new.reader.setup) + weighted 19 (table_numbers x) + a) % 18446744073709551616) c.forget.ensures.table c.changing_sum-after.ensures) in
    resealed r c.forget.new.reader fixed b a fits c.changing_sum-before.type_inv was is c.forget.ensures.check

pub returns-clause-restarted : goal.returns-clause-restarted
returns-clause-restarted c h s =
    let setup = c.forget.ensures.setup in
    let state = c.forget.ensures.state in
    record {
      rules = ap (λ (x : IrigSetup). rules_in x) setup ∙ s.rules;
      limits = ap (λ (x : IrigSetup). limits_in x) setup ∙ s.limits;
      reader_rules = ap (λ (x : IrigSetup). reader_rules_in x) setup ∙ s.reader_rules;
      table = ap (λ (x : IrigTable). table_in x) c.forget.ensures.table ∙ s.table;
      redundancy = ap (λ (x : IrigSetup). redundancy_in x) setup ∙ s.redundancy;
      heard = c.forget.ensures.ports;
      state = ap (λ (x : IrigState). state_in x) state;
      setup = subst (λ (x : IrigSetup). IsSetup x) (sym setup) s.setup;
      is_state = inl (ap (λ (x : IrigState). x.kind) state);
      sealed = (returns-clause-sealed c).1 s.sealed;
    }
