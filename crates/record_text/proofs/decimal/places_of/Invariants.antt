use Rattle.std.proofs.Common.{◌≡◌, ◌≤◌, drop}
use Rattle.record_text.specs.Decimals.{places_from}
use Rattle.record_text.proofs.decimal.places_of.Given as goal

-- what is left decides
abbrev pub invariant-loop-digit : goal.invariant-loop-digit
invariant-loop-digit l = (places_from l.weight l.number (drop l.digit-index l.digits) ≡ places_from 100000 l.fn.number l.digits) × (l.weight ≤ 100000)
