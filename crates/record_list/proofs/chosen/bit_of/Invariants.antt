use Rattle.std.proofs.Common.{◌≡◌, drop}
use Rattle.record_list.specs.Rows.{bit_from, bit_of}
use Rattle.record_list.proofs.chosen.bit_of.Given as goal

-- what is left decides
abbrev pub invariant-loop-at : goal.invariant-loop-at
invariant-loop-at l = bit_from l.at (drop l.at l.ports) l.port ≡ bit_of l.ports l.port
