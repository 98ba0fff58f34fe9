use Rattle.std.proofs.Common.{◌≡◌, drop}
use Rattle.irig_time.specs.Timelines.{leap_of}
use Rattle.irig_time.proofs.leap.leap_on.Given as goal

abbrev pub invariant-loop-at : goal.invariant-loop-at
invariant-loop-at l = leap_of (drop l.at-index l.leaps) l.day ≡ leap_of l.leaps l.day
