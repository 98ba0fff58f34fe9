use Rattle.c_numbers.proofs.CheckLaws.{led}
use Rattle.c_numbers.proofs.check_word.with_leap.Goals as goal

pub returns : goal.returns
returns c ns h =
    let h1 = led c.from.ensures (c.with_first.ensures ns h) in
    led c.from-2.ensures (c.with_first-2.ensures _ h1)
