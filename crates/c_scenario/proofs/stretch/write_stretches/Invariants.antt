use Rattle.c_scenario.specs.Stretches.{stretch_for}
use Rattle.c_scenario.proofs.WrittenLaws.{HasWritten}
use Rattle.c_scenario.proofs.stretch.write_stretches.Given as goal

abbrev pub invariant-loop-index : goal.invariant-loop-index
invariant-loop-index l = HasWritten stretch_for l.findings l.initial.room l.room l.index
