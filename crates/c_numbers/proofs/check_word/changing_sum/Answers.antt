use Rattle.std.proofs.Common.{rules, refl, arith}
use Rattle.c_numbers.specs.CheckWord.{check_of, port_numbers, state_numbers}
use Rattle.c_numbers.proofs.CheckLaws.{by_parts, append_at}
use Rattle.c_numbers.proofs.check_word.changing_sum.Goals as goal

pub returns : goal.returns
unfolding check_of
returns c =
    let r = c.args.reader.now in
    let parts = by_parts r (search rules) in
    let sum = c.weighed.ensures _ (c.with_state.ensures (port_numbers r.ports) c.ports_sums.ensures) in
    omega (arith, parts, sum, append_at 279 291 (state_numbers r.state) (port_numbers r.ports) refl)
