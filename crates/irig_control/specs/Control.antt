-- The word of control bits and what it says, both by the table of specs/ControlTable.antt. Bit n of
-- the word has the weight 2^n.
-- Source: docs/FRAME.md; IEEE 1344-1995, the IRIG-B annex, by the table of ControlTable.antt.
use Rattle.std.specs.Prelude.{ℕ, ◌+◌, ◌-◌, ◌*◌, ◌/◌, ◌%◌, ◌≤◌, ◌^◌, Bool, ◌==◌, if◌then◌else◌, sum_by, ℤ, pos, neg_ℤ, int_lt, unsigned_abs}
use Rattle.irig_control.specs.declared.control.Control.{Control}
use Rattle.irig_control.specs.ControlTable.{ControlField, LeapPending, LeapDelete, DstPending, Dst, OffsetMinus, OffsetHours, OffsetHalfHour, Quality, ParityBit, Unused, bits_of, meanings}

-- what the control bits have room for
pub record IsControl (c : Control) : Type 0 where
  pub offset : unsigned_abs c.offset_half_hours ≤ 31
  pub quality : c.quality ≤ 15

-- whether the number has a one at the weight
abbrev pub has_one : ℕ → ℕ → Bool
has_one number weight = number / weight % 2 == 1

-- the bit of a truth value
abbrev pub flag : Bool → ℕ
flag b = if b then 1 else 0

-- the number that the bits of a meaning are to have; the parity is set later, on the frame
abbrev pub number_of : Control → ControlField → ℕ
number_of c LeapPending = flag c.leap_pending
number_of c LeapDelete = flag c.leap_delete
number_of c DstPending = flag c.dst_pending
number_of c Dst = flag c.dst
number_of c OffsetMinus = flag (int_lt c.offset_half_hours (pos 0))
number_of c OffsetHours = unsigned_abs c.offset_half_hours / 2
number_of c OffsetHalfHour = unsigned_abs c.offset_half_hours % 2
number_of c Quality = c.quality
number_of c ParityBit = 0
number_of c Unused = 0

-- the word that has the number in the bits of the meaning, and 0 in all others
abbrev pub word_with : ControlField → ℕ → ℕ
word_with m number = sum_by (λ b. if has_one number b.weight then 2 ^ b.number else 0) (bits_of m)

-- the word that says all this
unfoldable pub word_of : Control → ℕ
word_of c = sum_by (λ m. word_with m (number_of c m)) meanings

-- the number that the word has in the bits of the meaning
abbrev pub number_in : ℕ → ControlField → ℕ
number_in word m = sum_by (λ b. if has_one word (2 ^ b.number) then b.weight else 0) (bits_of m)

-- the half hours of the offset, without its sign
abbrev pub half_hours_in : ℕ → ℕ
half_hours_in word = 2 * number_in word OffsetHours + number_in word OffsetHalfHour

-- the offset in half hours, with its sign
unfoldable pub offset_in : ℕ → ℤ
offset_in word =
    if number_in word OffsetMinus == 1 then neg_ℤ (pos (half_hours_in word))
    else pos (half_hours_in word)

-- what the word says; the parity and the unused bits are ignored
unfoldable pub control_of : ℕ → Control
control_of word = record {
  leap_pending = number_in word LeapPending == 1;
  leap_delete = number_in word LeapDelete == 1;
  dst_pending = number_in word DstPending == 1;
  dst = number_in word Dst == 1;
  offset_half_hours = offset_in word;
  quality = number_in word Quality;
}

-- the word without the parity, the last three bits and the sign of a zero offset
unfoldable pub normal_word : ℕ → ℕ
normal_word word =
    if half_hours_in word == 0
    then word % 2 ^ 14 - word_with OffsetMinus (number_in word OffsetMinus)
    else word % 2 ^ 14
