use Rattle.std.proofs.Common.{◌-◌, ◌++◌, [], ◌∷◌}
use Rattle.irig_time.proofs.StretchLaws.{IsBuilt}
use Rattle.irig_time.proofs.stretches.stretches_from.Given as goal

abbrev pub invariant-loop-day : goal.invariant-loop-day
invariant-loop-day l = IsBuilt l.leaps l.first (l.stretches.items ++ l.here ∷ [])

abbrev pub decreases-loop-day : goal.decreases-loop-day
decreases-loop-day l = 36524 - l.here.day
