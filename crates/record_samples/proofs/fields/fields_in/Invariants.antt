use Rattle.std.proofs.Common.{◌≡◌, ◌≤◌, ◌+◌, drop}
use Rattle.record_samples.specs.Rows.{fields_in}
use Rattle.record_samples.proofs.fields.fields_in.Given as goal

-- those so far, and those of the rest
abbrev pub invariant-loop-byte : goal.invariant-loop-byte
invariant-loop-byte l = (l.count ≤ l.byte-index + 1) × (fields_in l.line + 1 ≡ l.count + fields_in (drop l.byte-index l.line))
