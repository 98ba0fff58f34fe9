use Rattle.std.proofs.Common.{◌≡◌, ℕ, List, ◌++◌, take}
use Rattle.record_text.specs.Lines.{lines_on}
use Rattle.record_text.proofs.lines.Lines.next.Given as goal

-- what was taken has left no line
abbrev pub invariant-loop-at : goal.invariant-loop-at
invariant-loop-at l = (more : List ℕ) → lines_on l.fn.self (take l.at l.bytes ++ more) ≡ lines_on l.self more
