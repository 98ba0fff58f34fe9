use Rattle.std.proofs.Common.{ap, string_bytes, ◌∙◌}
use Rattle.report_log.proofs.TextLaws.{line_added, line_left_out, all_added}
use Rattle.report_log.proofs.text.push_entries.Goals as goal
use Rattle.report_log.proofs.text.push_entries.Goals.{then-is_written+in_ok-push_entry, else-is_written}

pub loop-entry-preserved : goal.loop-entry-preserved
loop-entry-preserved c = elim c.if-is_written.branch [
  | then-is_written+in_ok-push_entry w ↦ line_added _ _ _ _ _ _ _ _ _ c.loop-entry-test.true c.loop-entry.invariant c.is_written.ensures w.if-is_written.true (ap string_bytes w.text-is ∙ w.in_ok-push_entry.ensures)
  | else-is_written w ↦ rw w.text-is (line_left_out _ _ _ _ _ _ _ _ c.loop-entry-test.true c.loop-entry.invariant c.is_written.ensures w.if-is_written.false)
]

pub returns : goal.returns
returns c = all_added _ _ _ _ _ c.loop-entry.entry-index c.loop-entry-test.false c.loop-entry.invariant
