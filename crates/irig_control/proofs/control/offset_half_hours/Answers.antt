use Rattle.std.proofs.Common.{arith, sym}
use Rattle.std.proofs.lemmas.Int.{ints}
use Rattle.irig_control.proofs.ControlLaws.{offset_is}
use Rattle.irig_control.proofs.control.offset_half_hours.Goals as goal

pub returns-then-has_bit-clause-offset : goal.returns-then-has_bit-clause-offset
returns-then-has_bit-clause-offset c = rw (offset_is, sym c.has_bit.ensures, c.if-has_bit.true) (omega (arith, ints))

pub returns-else-has_bit-clause-offset : goal.returns-else-has_bit-clause-offset
returns-else-has_bit-clause-offset c = rw (offset_is, sym c.has_bit.ensures, c.if-has_bit.false) (omega (arith, ints))
