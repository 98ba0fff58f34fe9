use Rattle.c_numbers.proofs.CheckLaws.{led}
use Rattle.c_keeper.proofs.check_word.with_clock.Goals as goal

pub returns : goal.returns
returns c ns h =
    let h1 = c.with_announced.ensures ns h in
    let h2 = c.with_announced-ended.ensures _ h1 in
    let h3 = c.with_announced-2.ensures _ h2 in
    let h4 = c.with_announced-told.ensures _ h3 in
    let h5 = c.with_anchors.ensures _ h4 in
    let learned = c.with_pace-measured.ensures _ h5 in
    let h6 = led c.from.ensures (c.with_first.ensures _ learned) in
    let h7 = led c.from-2.ensures (c.with_first-2.ensures _ h6) in
    let h8 = led c.from-3.ensures (c.with_first-3.ensures _ h7) in
    let h9 = led c.from-4.ensures (c.with_first-4.ensures _ h8) in
    let h10 = led c.from-5.ensures (c.with_first-5.ensures _ h9) in
    let h11 = led c.from-6.ensures (c.with_first-6.ensures _ h10) in
    let h12 = led c.from-7.ensures (c.with_first-7.ensures _ h11) in
    let h13 = led c.from-8.ensures (c.with_first-8.ensures _ h12) in
    let h14 = led c.from-9.ensures (c.with_first-counted.ensures _ h13) in
    c.with_wires.ensures _ h14
