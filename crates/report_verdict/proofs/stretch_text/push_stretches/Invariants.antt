use Rattle.std.proofs.Common.{◌≡◌, ◌++◌, string_bytes, take}
use Rattle.report_verdict.specs.VerdictText.{stretches_text}
use Rattle.report_verdict.proofs.stretch_text.push_stretches.Given as goal

abbrev pub invariant-loop-stretch : goal.invariant-loop-stretch
invariant-loop-stretch l = string_bytes l.text ≡ string_bytes l.initial.text ++ stretches_text l.lines (take l.stretch-index l.stretches)
