use Rattle.std.proofs.Common.{rules, ◌≡◌, ◌+◌, ◌%◌, ◌<◌, ℕ, subst}
use Rattle.c_numbers.specs.declared.setup.IrigSetup.{IrigSetup}
use Rattle.c_numbers.specs.declared.table.IrigTable.{IrigTable}
use Rattle.c_numbers.specs.CheckWord.{setup_numbers, table_numbers, weighted}
use Rattle.c_keeper.specs.CheckWord.{check_of}
use Rattle.c_keeper.proofs.SumLaws.{resealed}
use Rattle.c_keeper.proofs.timekeeper.restart.Goals as goal

pub returns-clause-sealed : goal.returns-clause-sealed
returns-clause-sealed c =
    let t = c.args.timekeeper.now in
    let q = c.forget.new.timekeeper in
    let fits : t.check < 18446744073709551616 = search rules in
    let fixed : ℕ = weighted 3 (setup_numbers t.setup) + weighted 19 (table_numbers t.table) in
    let b : ℕ = c.changing_sum-before.result in
    let a : ℕ = c.changing_sum-after.result in
    let was : check_of t ≡ (fixed + b) % 18446744073709551616 = c.changing_sum-before.ensures in
    let is : check_of q ≡ (fixed + a) % 18446744073709551616 =
    subst (λ (x : IrigSetup). check_of q ≡ (weighted 3 (setup_numbers x) + weighted 19 (table_numbers t.table) + a) % 18446744073709551616) c.forget.ensures.setup
    (subst (λ (x : IrigTable). check_of q ≡ (weighted 3 (setup_numbers q.setup) + weighted 19 (table_numbers x) + a) % 18446744073709551616) c.forget.ensures.table c.changing_sum-after.ensures) in
    resealed t q fixed b a fits c.changing_sum-before.type_inv was is c.forget.ensures.check
