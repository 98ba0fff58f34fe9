use Rattle.std.proofs.Common.{◌≡◌, ◌+◌, drop}
use Rattle.record_stamp.specs.Codes.{digits_in}
use Rattle.record_stamp.proofs.code.digits_in.Given as goal

-- those so far, and those of the rest
abbrev pub invariant-loop-at : goal.invariant-loop-at
invariant-loop-at l = digits_in l.text ≡ l.at + digits_in (drop l.at l.text)
