use Rattle.std.proofs.Common.{◌∙◌, ◌%◌, ℕ, ap, refl}
use Rattle.c_numbers.specs.CheckWord.{setup_numbers, table_numbers}
use Rattle.c_numbers.proofs.CheckLaws.{append_at}
use Rattle.c_numbers.proofs.check_word.fixed_sum.Goals as goal

pub returns : goal.returns
returns c =
    let setup = setup_numbers c.args.setup.now in
    let table = table_numbers c.args.table.now in
    c.weighed.ensures _ (c.with_setup.ensures table c.table_sums.ensures) ∙ ap (λ (n : ℕ). n % 18446744073709551616) (append_at 3 19 setup table refl)
