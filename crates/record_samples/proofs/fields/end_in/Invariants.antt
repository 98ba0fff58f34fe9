use Rattle.std.proofs.Common.{◌≡◌, ◌+◌, drop}
use Rattle.record_samples.specs.Rows.{end_in}
use Rattle.record_samples.proofs.fields.end_in.Given as goal

-- those so far, and those of the rest
abbrev pub invariant-loop-at : goal.invariant-loop-at
invariant-loop-at l = end_in l.bytes ≡ l.at + end_in (drop l.at l.bytes)
