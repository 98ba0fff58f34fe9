use Rattle.c_numbers.proofs.CheckLaws.{led}
use Rattle.c_numbers.proofs.check_word.table_sums.Goals as goal

pub returns : goal.returns
returns c =
    let leaps = led c.from.ensures (c.with_first.ensures _ c.leaps_sums.ensures) in
    led c.from-2.ensures (c.with_first-2.ensures _ leaps)
