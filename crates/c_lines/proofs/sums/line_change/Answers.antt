use Rattle.std.proofs.Common.{[]}
use Rattle.c_lines.specs.CheckWord.{line_numbers}
use Rattle.c_lines.proofs.sums.line_change.Goals as goal

pub returns : goal.returns
returns c =
    c.change.ensures (line_numbers c.args.before.now) (line_numbers c.args.after.now) (c.with_line-sums.ensures [] c.none.ensures) (c.with_line.ensures [] c.none-2.ensures)
