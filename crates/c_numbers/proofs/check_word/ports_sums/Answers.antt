use Rattle.c_numbers.proofs.check_word.ports_sums.Goals as goal

pub returns : goal.returns
returns c =
    let fifth = c.with_tally.ensures _ c.none.ensures in
    let fourth = c.with_tally-last.ensures _ fifth in
    let third = c.with_tally-2.ensures _ fourth in
    let second = c.with_tally-3.ensures _ third in
    c.with_tally-4.ensures _ second
