use Rattle.std.proofs.Common.{ap, string_bytes, ◌∙◌}
use Rattle.report_log.proofs.RowLaws.{tick_added, all_ticks_added}
use Rattle.report_log.proofs.port_text.push_ticks.Goals as goal

pub loop-entry-preserved : goal.loop-entry-preserved
loop-entry-preserved c = tick_added _ _ _ _ _ _ _ _ c.loop-entry-test.true c.loop-entry.invariant c.in_ok-push_tick.ensures

pub returns : goal.returns
returns c = all_ticks_added _ _ _ _ _ c.loop-entry.entry-index c.loop-entry-test.false c.loop-entry.invariant
