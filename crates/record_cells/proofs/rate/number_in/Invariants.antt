use Rattle.std.proofs.Common.{◌≡◌, ◌+◌, drop}
use Rattle.record_cells.specs.Rates.{number_in}
use Rattle.record_cells.proofs.rate.number_in.Given as goal

-- those so far, and those of the rest
abbrev pub invariant-loop-at : goal.invariant-loop-at
invariant-loop-at l = number_in l.text ≡ l.at + number_in (drop l.at l.text)
