use Rattle.c_scenario.specs.Lanes.{lane_for}
use Rattle.c_scenario.proofs.WrittenLaws.{HasWritten}
use Rattle.c_scenario.proofs.lane.write_lanes.Given as goal

abbrev pub invariant-loop-index : goal.invariant-loop-index
invariant-loop-index l = HasWritten lane_for l.lanes l.initial.room l.room l.index
