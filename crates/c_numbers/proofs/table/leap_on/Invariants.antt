use Rattle.std.proofs.Common.{◌≡◌, drop, map}
use Rattle.irig_time.specs.Timelines.{leap_of}
use Rattle.c_numbers.specs.LeapTables.{leap_in}
use Rattle.c_numbers.proofs.table.leap_on.Given as goal

abbrev pub invariant-loop-leap : goal.invariant-loop-leap
invariant-loop-leap l = leap_of (map leap_in (drop l.leap-index l.leaps)) l.day ≡ leap_of (map leap_in l.leaps) l.day
