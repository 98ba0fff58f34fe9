use Rattle.std.proofs.Common.{◌≡◌, drop}
use Rattle.record_table.specs.Stands.{all_low, stand_from}
use Rattle.record_table.proofs.row.lines_of.Given as goal

-- what is left decides
abbrev pub invariant-loop-at : goal.invariant-loop-at
invariant-loop-at l = stand_from l.threshold l.at l.stand (drop l.at l.chosen) l.before l.cells ≡ stand_from l.threshold 0 (all_low l.before) l.chosen l.before l.cells
