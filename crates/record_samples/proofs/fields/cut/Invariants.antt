use Rattle.std.proofs.Common.{◌≡◌, ◌+◌, ◌-◌}
use Rattle.record_samples.specs.Rows.{fields_in, from_field}
use Rattle.record_samples.proofs.fields.cut.Given as goal

-- what is left, and the fields before it
abbrev pub invariant-loop-passed : goal.invariant-loop-passed
invariant-loop-passed l = (from_field (l.place - l.passed) l.rest ≡ from_field l.place l.line) × (l.passed + fields_in l.rest ≡ fields_in l.line)
