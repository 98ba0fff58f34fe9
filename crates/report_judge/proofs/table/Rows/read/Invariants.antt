use Rattle.std.proofs.Common.{length}
use Rattle.report_judge.specs.Tables.{HasReadRows}
use Rattle.report_judge.proofs.PartLaws.{IsPart}
use Rattle.report_judge.proofs.table.Rows.read.Given as goal

-- what was read was heard
abbrev pub invariant-loop-rest : goal.invariant-loop-rest
invariant-loop-rest l = IsPart HasReadRows l.fn.self l.self l.bytes l.rest

abbrev pub decreases-loop-rest : goal.decreases-loop-rest
decreases-loop-rest l = length l.rest
