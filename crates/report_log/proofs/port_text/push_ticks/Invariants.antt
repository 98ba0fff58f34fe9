use Rattle.std.proofs.Common.{map, drop, string_bytes}
use Rattle.report_log.proofs.RowLaws.{HasTicks}
use Rattle.report_log.proofs.port_text.push_ticks.Given as goal

abbrev pub invariant-loop-entry : goal.invariant-loop-entry
invariant-loop-entry l = HasTicks (map string_bytes l.names.keys) l.shown.all (string_bytes l.fn.text) (string_bytes l.text) (drop l.entry-index l.entries) l.entries
