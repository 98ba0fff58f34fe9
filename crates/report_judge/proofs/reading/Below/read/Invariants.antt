use Rattle.std.proofs.Common.{length}
use Rattle.report_judge.specs.Readings.{HasReadBelow}
use Rattle.report_judge.proofs.PartLaws.{IsPart}
use Rattle.report_judge.proofs.reading.Below.read.Given as goal

-- what was read was heard
abbrev pub invariant-loop-rest : goal.invariant-loop-rest
invariant-loop-rest l = IsPart HasReadBelow l.fn.self l.self l.bytes l.rest

abbrev pub decreases-loop-rest : goal.decreases-loop-rest
decreases-loop-rest l = length l.rest
