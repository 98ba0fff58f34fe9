use Rattle.std.proofs.Common.{◌≡◌, ◌+◌, ◌%◌, ◌∙◌, ℕ, eqb, true, false, refl, sym, ap, arith}
use Rattle.std.proofs.lemmas.Bool.{eq-eqb, ne_eqb}
use Rattle.irig_control.specs.Parity.{remainder_of}
use Rattle.irig_port.specs.Bits.{counted_ones, time_number, control_number}
use Rattle.irig_port.proofs.ValueLaws.{numbers_of_value}
use Rattle.irig_port.proofs.tally.Tally.of_value.Goals as goal

pub returns-then-ones_in-from-clause-of_frame : goal.returns-then-ones_in-from-clause-of_frame
returns-then-ones_in-from-clause-of_frame c =
    let coded = c.args.coded.now in
    let counted : c.ones_in.result ≡ counted_ones (time_number coded) (control_number coded) = c.ones_in.ensures.exact ∙ rw (c.time_number.ensures, c.control_number.ensures.exact) refl in
    let test : eqb (counted_ones (time_number coded) (control_number coded) % 2) (remainder_of c.args.parity) ≡ false =
    ne_eqb _ _ (λ e. c.if-ones_in-from.true (ap (λ (n : ℕ). n % 2) counted ∙ e ∙ sym (c.from.ensures ∙ c.remainder.ensures))) in
    rw c.time_number.ensures (numbers_of_value c.args.parity coded true (c.control_number.result + 32768) c.requires.value c.requires.unused test (omega (arith, c.control_number.ensures.exact)))

pub returns-else-ones_in-from-clause-of_frame : goal.returns-else-ones_in-from-clause-of_frame
returns-else-ones_in-from-clause-of_frame c =
    let coded = c.args.coded.now in
    let counted : c.ones_in.result ≡ counted_ones (time_number coded) (control_number coded) = c.ones_in.ensures.exact ∙ rw (c.time_number.ensures, c.control_number.ensures.exact) refl in
    let test : eqb (counted_ones (time_number coded) (control_number coded) % 2) (remainder_of c.args.parity) ≡ true =
    eq-eqb _ _ (ap (λ (n : ℕ). n % 2) (sym counted) ∙ c.if-ones_in-from.false ∙ (c.from.ensures ∙ c.remainder.ensures)) in
    rw c.time_number.ensures (numbers_of_value c.args.parity coded false c.control_number.result c.requires.value c.requires.unused test (omega (arith, c.control_number.ensures.exact)))
