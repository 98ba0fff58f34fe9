use Rattle.std.proofs.Common.{◌≡◌, ◌++◌}
use Rattle.irig_plant.specs.WholeSecond.{carries}
use Rattle.scenario_line.proofs.whole_second.push_carries.Given as goal

abbrev pub invariant-loop-r : goal.invariant-loop-r
invariant-loop-r l = l.events.items ≡ l.initial.events.items ++ carries l.generators l.r
