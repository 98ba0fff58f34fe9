use Rattle.c_numbers.proofs.CheckLaws.{led}
use Rattle.c_numbers.proofs.check_word.with_setup.Goals as goal

pub returns : goal.returns
returns c ns h =
    let h1 = led c.from.ensures (c.with_first.ensures ns h) in
    let h2 = led c.from-2.ensures (c.with_first-2.ensures _ h1) in
    let h3 = led c.from-3.ensures (c.with_first-3.ensures _ h2) in
    let h4 = led c.from-4.ensures (c.with_first-4.ensures _ h3) in
    let h5 = led c.from-5.ensures (c.with_first-5.ensures _ h4) in
    let h6 = led c.from-6.ensures (c.with_first-6.ensures _ h5) in
    let h7 = led c.from-7.ensures (c.with_first-7.ensures _ h6) in
    led c.from-8.ensures (c.with_first-8.ensures _ h7)
