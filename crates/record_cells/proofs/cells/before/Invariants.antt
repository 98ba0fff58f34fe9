use Rattle.std.proofs.Common.{◌≡◌, ◌+◌, drop}
use Rattle.record_cells.specs.Cells.{before}
use Rattle.record_cells.proofs.cells.before.Given as goal

-- those so far, and those of the rest
abbrev pub invariant-loop-at : goal.invariant-loop-at
invariant-loop-at l = before l.first l.second l.text ≡ l.at + before l.first l.second (drop l.at l.text)
