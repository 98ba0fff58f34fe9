use Rattle.std.proofs.Common.{◌≡◌, ◌≤◌, ◌<◌, ◌+◌, ◌*◌, drop}
use Rattle.record_text.specs.Decimals.{places_from}
use Rattle.record_stamp.proofs.parts.nanoseconds.Given as goal

-- what is left decides; and what the digits that may follow can add keeps the number below a second
abbrev pub invariant-loop-digit : goal.invariant-loop-digit
invariant-loop-digit l =
    (places_from l.weight l.number (drop l.digit-index l.digits) ≡ places_from 100000000 0 l.digits)
    × (l.number < 1000000000) × (l.number + 10 * l.weight ≤ 1000000000) × (l.weight ≤ 100000000)
