use Rattle.std.proofs.Common.{◌≡◌, drop}
use Rattle.record_text.specs.Numbers.{number_from}
use Rattle.record_text.proofs.number.number_of.Given as goal

-- what is left decides
abbrev pub invariant-loop-digit : goal.invariant-loop-digit
invariant-loop-digit l = number_from l.number (drop l.digit-index l.digits) ≡ number_from 0 l.digits
