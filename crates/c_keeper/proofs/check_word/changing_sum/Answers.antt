use Rattle.std.proofs.Common.{arith}
use Rattle.c_keeper.specs.CheckWord.{changing_numbers, check_of}
use Rattle.c_keeper.proofs.SumLaws.{fixed_parts}
use Rattle.c_keeper.proofs.check_word.changing_sum.Goals as goal

pub returns : goal.returns
unfolding check_of
returns c =
    let t = c.args.timekeeper.now in
    omega (arith, fixed_parts t, c.weighed.ensures (changing_numbers t) c.changing_sums.ensures)
