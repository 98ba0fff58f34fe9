use Rattle.std.proofs.Common.{◌≡◌, ◌-◌}
use Rattle.record_text.specs.Fields.{field}
use Rattle.record_text.proofs.fields.field_of.Given as goal

-- the field is one of what is left
abbrev pub invariant-loop-passed : goal.invariant-loop-passed
invariant-loop-passed l = field (l.place - l._passed) l.rest ≡ field l.place l.line
