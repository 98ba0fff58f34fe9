use Rattle.std.proofs.Common.{◌≡◌, map, take}
use Rattle.c_numbers.specs.LeapTables.{leap_in}
use Rattle.c_numbers.proofs.table.list.Given as goal

abbrev pub invariant-loop-leap : goal.invariant-loop-leap
invariant-loop-leap l = l.pairs.items ≡ map leap_in (take l.leap-index l.fn.leaps)
