use Rattle.std.proofs.Common.{rules, arith}
use Rattle.c_scenario.proofs.EntryLaws.{one_begun, begun_before, all_begun}
use Rattle.c_scenario.proofs.entry_log.lines_begun.Goals as goal

pub loop-lines-preserved : goal.loop-lines-preserved
loop-lines-preserved c = (omega (arith, c.loop-lines-test.true), one_begun c.args.starts.now c.loop-lines.lines c.args.count (search rules) (search rules) c.loop-lines.invariant.1)

pub returns-else-starts-lines : goal.returns-else-starts-lines
returns-else-starts-lines c = begun_before c.args.starts.now c.loop-lines.lines c.args.count (search rules) (search rules) c.loop-lines.invariant.1

pub returns-after-loop-lines : goal.returns-after-loop-lines
returns-after-loop-lines c = all_begun c.args.starts.now c.loop-lines.lines c.args.count (search rules) c.loop-lines.invariant.1
