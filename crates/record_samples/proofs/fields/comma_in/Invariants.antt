use Rattle.std.proofs.Common.{◌≡◌, ◌+◌, drop}
use Rattle.record_text.specs.Fields.{comma_in}
use Rattle.record_samples.proofs.fields.comma_in.Given as goal

-- those so far, and those of the rest
abbrev pub invariant-loop-at : goal.invariant-loop-at
invariant-loop-at l = comma_in l.text ≡ l.at + comma_in (drop l.at l.text)
