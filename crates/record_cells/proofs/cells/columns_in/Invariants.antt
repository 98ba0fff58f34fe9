use Rattle.std.proofs.Common.{◌≡◌, ◌+◌, ◌≤◌, drop}
use Rattle.record_cells.specs.Cells.{columns_in}
use Rattle.record_cells.proofs.cells.columns_in.Given as goal

-- what is left decides
abbrev pub invariant-loop-byte : goal.invariant-loop-byte
invariant-loop-byte l = (l.commas + columns_in (drop l.byte-index l.text) ≡ columns_in l.text) × (l.commas ≤ l.byte-index)
