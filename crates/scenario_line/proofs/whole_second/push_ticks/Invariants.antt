use Rattle.std.proofs.Common.{◌≡◌, ◌++◌}
use Rattle.irig_plant.specs.WholeSecond.{ticks}
use Rattle.scenario_line.proofs.whole_second.push_ticks.Given as goal

abbrev pub invariant-loop-r : goal.invariant-loop-r
invariant-loop-r l = l.events.items ≡ l.initial.events.items ++ ticks l.r
