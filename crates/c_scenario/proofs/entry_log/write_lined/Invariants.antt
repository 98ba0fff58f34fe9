use Rattle.c_scenario.proofs.EntryLaws.{HasWritten}
use Rattle.c_scenario.proofs.entry_log.write_lined.Given as goal

abbrev pub invariant-loop-index : goal.invariant-loop-index
invariant-loop-index l = HasWritten l.starts l.entries l.initial.room l.room l.index l.line
