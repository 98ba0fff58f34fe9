use Rattle.std.proofs.Common.{◌≡◌, ◌+◌, ◌*◌, ◌%◌, ℕ, subst}
use Rattle.c_numbers.specs.CheckWord.{tally_numbers, weighted}
use Rattle.c_numbers.proofs.check_word.tally_change.Goals as goal

pub returns : goal.returns
returns c =
    let before = tally_numbers c.args.before.now in
    let after = tally_numbers c.args.after.now in
    let change = c.change.ensures before after (c.with_tally-sums.ensures _ c.none.ensures) (c.with_tally.ensures _ c.none-2.ensures) in
    subst (λ (port : ℕ). (weighted (291 + 10 * port) before + c.change.result) % 18446744073709551616 ≡ weighted (291 + 10 * port) after % 18446744073709551616)
    c.from.ensures change
