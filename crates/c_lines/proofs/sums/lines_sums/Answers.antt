use Rattle.c_lines.proofs.sums.lines_sums.Goals as goal

pub returns : goal.returns
returns c =
    let fifth = c.with_line.ensures _ c.none.ensures in
    let fourth = c.with_line-last.ensures _ fifth in
    let third = c.with_line-2.ensures _ fourth in
    let second = c.with_line-3.ensures _ third in
    c.with_line-4.ensures _ second
