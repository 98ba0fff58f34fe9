use Rattle.std.proofs.Common.{◌≡◌, ◌++◌}
use Rattle.irig_plant.specs.WholeSecond.{steps}
use Rattle.scenario_line.proofs.whole_second.push_steps.Given as goal

abbrev pub invariant-loop-g : goal.invariant-loop-g
invariant-loop-g l = l.events.items ≡ l.initial.events.items ++ steps l.g
