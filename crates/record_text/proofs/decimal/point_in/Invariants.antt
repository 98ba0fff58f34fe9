use Rattle.std.proofs.Common.{◌≡◌, ◌+◌, drop}
use Rattle.record_text.specs.Decimals.{point_in}
use Rattle.record_text.proofs.decimal.point_in.Given as goal

-- those so far, and those of the rest
abbrev pub invariant-loop-at : goal.invariant-loop-at
invariant-loop-at l = point_in l.text ≡ l.at + point_in (drop l.at l.text)
