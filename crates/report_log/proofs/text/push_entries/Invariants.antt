use Rattle.std.proofs.Common.{map, drop, string_bytes}
use Rattle.report_log.proofs.TextLaws.{HasAdded}
use Rattle.report_log.proofs.text.push_entries.Given as goal

abbrev pub invariant-loop-entry : goal.invariant-loop-entry
invariant-loop-entry l = HasAdded (map string_bytes l.names.keys) l.shown.all (string_bytes l.fn.text) (string_bytes l.text) (drop l.entry-index l.entries) l.entries
