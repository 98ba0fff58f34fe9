use Rattle.std.proofs.Common.{length}
use Rattle.report_judge.proofs.RecordLaws.{ReadsPart}
use Rattle.report_judge.proofs.record.Record.read.Given as goal

-- what was taken was heard
abbrev pub invariant-loop-rest : goal.invariant-loop-rest
invariant-loop-rest l = ReadsPart l.fn.self l.self l.bytes l.rest

abbrev pub decreases-loop-rest : goal.decreases-loop-rest
decreases-loop-rest l = length l.rest
