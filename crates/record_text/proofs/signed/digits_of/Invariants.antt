use Rattle.std.proofs.Common.{◌≡◌, ◌≤◌, drop, false}
use Rattle.record_text.specs.Signed.{digits_from}
use Rattle.record_text.proofs.signed.digits_of.Given as goal

-- what is left decides
abbrev pub invariant-loop-at : goal.invariant-loop-at
invariant-loop-at l = (digits_from l.is_minus l.is_behind l.number l.places (drop l.at l.text) ≡ digits_from l.is_minus false 0 0 l.text) × (l.places ≤ l.at)
