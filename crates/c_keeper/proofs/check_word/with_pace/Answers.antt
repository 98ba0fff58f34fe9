use Rattle.c_numbers.proofs.CheckLaws.{led}
use Rattle.c_keeper.proofs.check_word.with_pace.Goals as goal

pub returns : goal.returns
returns c ns h =
    let rest = led c.from.ensures (c.with_first.ensures ns h) in
    let within = led c.from-2.ensures (c.with_first-2.ensures _ rest) in
    led c.from-3.ensures (c.with_first-3.ensures _ within)
