use Rattle.std.proofs.Common.{◌≡◌, ◌++◌}
use Rattle.irig_plant.specs.WholeSecond.{carries_to}
use Rattle.scenario_line.proofs.whole_second.push_carries_to.Given as goal

abbrev pub invariant-loop-g : goal.invariant-loop-g
invariant-loop-g l = l.events.items ≡ l.initial.events.items ++ carries_to l.g l.r
