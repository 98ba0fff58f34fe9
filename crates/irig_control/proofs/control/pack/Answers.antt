use Rattle.std.proofs.Common.{arith, ◌/◌, ◌%◌, ◌≡◌, ◌<◌, ◌∙◌, sym, subst, ℕ, unsigned_abs, w8, to_z, of_z, pos, int_lt}
use Rattle.irig_control.specs.Control.{flag}
use Rattle.irig_control.proofs.ControlLaws.{word_of-sum, word_of-below, all_joined, flag_below, in_byte}
use Rattle.irig_control.proofs.control.pack.Goals as goal

pub returns-clause-word : goal.returns-clause-word
returns-clause-word c =
    let k = c.args.control.now in
    let z = k.offset_half_hours in
    let fits = c.requires in
    let same : to_z w8 (of_z w8 z) ≡ z = in_byte z fits.offset in
    let size : c.from-half_hours.result ≡ unsigned_abs z = c.from-half_hours.ensures ∙ (rw same at c.unsigned_abs.ensures.value) in
    rw (word_of-sum k fits, c.bit.ensures, c.bit-2.ensures, c.bit-3.ensures, c.bit-4.ensures, c.bit-5.ensures, same, size, c.from.ensures)
    (all_joined (flag k.leap_pending) (flag k.leap_delete) (flag k.dst_pending) (flag k.dst) (flag (int_lt z (pos 0))) (unsigned_abs z / 2) (unsigned_abs z % 2) k.quality
    (flag_below _) (flag_below _) (flag_below _) (flag_below _) (flag_below _) (omega (arith, fits.offset)) (omega arith) (omega (arith, fits.quality)))

pub returns-clause-below : goal.returns-clause-below
returns-clause-below c =
    subst (λ (n : ℕ). n < 16384) (sym (returns-clause-word c)) (word_of-below c.args.control.now c.requires)
