use Rattle.std.proofs.Common.{◌≡◌, drop}
use Rattle.report_judge.specs.Records.{are_digital}
use Rattle.report_judge.proofs.record.are_digital.Given as goal

-- what is left decides
abbrev pub invariant-loop-place : goal.invariant-loop-place
invariant-loop-place l = are_digital l.digitals (drop l.place-index l.places) ≡ are_digital l.digitals l.places
