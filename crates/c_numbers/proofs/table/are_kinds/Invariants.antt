use Rattle.std.proofs.Common.{◌≡◌, drop}
use Rattle.c_numbers.specs.LeapTables.{are_kinds}
use Rattle.c_numbers.proofs.table.are_kinds.Given as goal

-- what is left decides
abbrev pub invariant-loop-leap : goal.invariant-loop-leap
invariant-loop-leap l = are_kinds l.leaps ≡ are_kinds (drop l.leap-index l.leaps)
