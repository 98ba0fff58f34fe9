use Rattle.std.proofs.Common.{◌≡◌, ◌++◌, map, take}
use Rattle.c_scenario.specs.Told.{device_entry_for}
use Rattle.c_scenario.proofs.told_log.push_told.Given as goal

abbrev pub invariant-loop-entry : goal.invariant-loop-entry
invariant-loop-entry l = l.told.items ≡ l.initial.told.items ++ map device_entry_for (take l.entry-index l.entries)
