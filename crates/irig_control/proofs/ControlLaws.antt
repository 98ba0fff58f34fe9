-- What the table of the control bits comes to in numbers, and that to write and to read by it are
-- one another's inverse.
use Rattle.std.proofs.Common.{◌≡◌, ℕ, zero, suc, ◌+◌, ◌-◌, ◌*◌, ◌/◌, ◌%◌, ◌<◌, ◌≤◌, ◌^◌, Bool, true, false, cond, eqb, ltb, refl, ap, ◌∙◌, arith, inl, inr, ℤ, pos, negsuc, neg_ℤ, unsigned_abs, int_lt, bit_or, to_z, of_z, w8}
use Rattle.std.proofs.lemmas.Bool.{cases_Bool, eqb-true, le-ltb, ne_eqb}
use Rattle.std.proofs.lemmas.Int.{ints}
use Rattle.std.specs.Int.Bits.{or_shifted_r}
use Rattle.irig_control.specs.declared.control.Control.{Control}
use Rattle.irig_control.specs.ControlTable.{LeapPending, LeapDelete, DstPending, Dst, OffsetMinus, OffsetHours, Quality}
use Rattle.irig_control.specs.Control.{IsControl, has_one, flag, word_with, word_of, number_in, half_hours_in, offset_in, control_of, normal_word}

-- ---- bits

-- what a bit of a number adds, if a one adds k
bit_adds : (n weight k : ℕ) → cond (has_one n weight) k 0 ≡ k * (n / weight % 2)
bit_adds n weight k = by_bit (n / weight % 2) (omega arith)
  where
    by_bit : (b : ℕ) → b < 2 → cond (eqb b 1) k 0 ≡ k * b
    by_bit zero h = omega arith
    by_bit (suc zero) h = omega arith
    by_bit (suc (suc b)) h = absurd (omega arith)

-- of a number that is one bit
only_bit_adds : (n k : ℕ) → n < 2 → cond (has_one n 1) k 0 ≡ k * n
only_bit_adds n k h = let low : n / 1 % 2 ≡ n = omega arith in bit_adds n 1 k ∙ ap (λ (b : ℕ). k * b) low

pub flag_below : (b : Bool) → flag b < 2
flag_below true = omega arith
flag_below false = omega arith

flag_back : (n : ℕ) (b : Bool) → n ≡ cond b 1 0 → eqb n 1 ≡ b
flag_back n true e = rw e refl
flag_back n false e = rw e refl

-- ---- writing

abbrev pub sum_of : Control → ℕ
sum_of c =
    flag c.leap_pending + 2 * flag c.leap_delete + 4 * flag c.dst_pending + 8 * flag c.dst
    + 16 * flag (int_lt c.offset_half_hours (pos 0))
    + 32 * (unsigned_abs c.offset_half_hours / 2) + 512 * (unsigned_abs c.offset_half_hours % 2)
    + 1024 * c.quality

pub word_of-sum : (c : Control) → IsControl c → word_of c ≡ sum_of c
unfolding word_of
word_of-sum c fits =
    let minus = int_lt c.offset_half_hours (pos 0) in
    let size = unsigned_abs c.offset_half_hours in
    let offset = fits.offset in
    let quality = fits.quality in
    let bit_0 = only_bit_adds (flag c.leap_pending) 1 (flag_below c.leap_pending) in
    let bit_1 = only_bit_adds (flag c.leap_delete) 2 (flag_below c.leap_delete) in
    let bit_2 = only_bit_adds (flag c.dst_pending) 4 (flag_below c.dst_pending) in
    let bit_3 = only_bit_adds (flag c.dst) 8 (flag_below c.dst) in
    let bit_4 = only_bit_adds (flag minus) 16 (flag_below minus) in
    let bit_5 = bit_adds (size / 2) 1 32 in
    let bit_6 = bit_adds (size / 2) 2 64 in
    let bit_7 = bit_adds (size / 2) 4 128 in
    let bit_8 = bit_adds (size / 2) 8 256 in
    let bit_9 = only_bit_adds (size % 2) 512 (omega arith) in
    let bit_10 = bit_adds c.quality 1 1024 in
    let bit_11 = bit_adds c.quality 2 2048 in
    let bit_12 = bit_adds c.quality 4 4096 in
    let bit_13 = bit_adds c.quality 8 8192 in
    omega arith

pub word_of-below : (c : Control) → IsControl c → word_of c < 2 ^ 14
word_of-below c fits =
    let bit_0 = flag_below c.leap_pending in
    let bit_1 = flag_below c.leap_delete in
    let bit_2 = flag_below c.dst_pending in
    let bit_3 = flag_below c.dst in
    let bit_4 = flag_below (int_lt c.offset_half_hours (pos 0)) in
    omega (arith, fits.offset, fits.quality, word_of-sum c fits)

-- higher bits joined to lower ones
joined : (a b m k : ℕ) → m ≡ 2 ^ k → a < m → bit_or a (b * m) ≡ a + m * b
joined a b m k e low = rw e (or_shifted_r b k a (omega arith) ∙ omega arith)

-- the same, if the code shifted the higher ones up
shifted : (a b m k : ℕ) → m ≡ 2 ^ k → a < m → b * m < 4294967296 → bit_or a (b * m % 4294967296) ≡ a + m * b
shifted a b m k e low fits = let whole : b * m % 4294967296 ≡ b * m = omega arith in rw whole (joined a b m k e low)

pub all_joined : (a b d e f g h i : ℕ) → a < 2 → b < 2 → d < 2 → e < 2 → f < 2 → g < 16 → h < 2 → i < 16
    → bit_or (bit_or (bit_or (bit_or (bit_or (bit_or (bit_or (a * 1) (b * 2)) (d * 4)) (e * 8)) (f * 16)) (g * 32 % 4294967296)) (h * 512 % 4294967296)) (i * 1024 % 4294967296)
    ≡ a + 2 * b + 4 * d + 8 * e + 16 * f + 32 * g + 512 * h + 1024 * i
all_joined a b d e f g h i la lb ld le lf lg lh li =
    let first : a * 1 ≡ a = omega arith in
    let second = joined a b 2 1 refl (omega arith) in
    let third = joined (a + 2 * b) d 4 2 refl (omega arith) in
    let fourth = joined (a + 2 * b + 4 * d) e 8 3 refl (omega arith) in
    let fifth = joined (a + 2 * b + 4 * d + 8 * e) f 16 4 refl (omega arith) in
    let sixth = shifted (a + 2 * b + 4 * d + 8 * e + 16 * f) g 32 5 refl (omega arith) (omega arith) in
    let seventh = shifted (a + 2 * b + 4 * d + 8 * e + 16 * f + 32 * g) h 512 9 refl (omega arith) (omega arith) in
    let eighth = shifted (a + 2 * b + 4 * d + 8 * e + 16 * f + 32 * g + 512 * h) i 1024 10 refl (omega arith) (omega arith) in
    rw (first, second, third, fourth, fifth, sixth, seventh) eighth

-- ---- reading

hours-div : (word : ℕ) → number_in word OffsetHours ≡ word / 32 % 16
hours-div word =
    let bit_5 = bit_adds word 32 1 in
    let bit_6 = bit_adds word 64 2 in
    let bit_7 = bit_adds word 128 4 in
    let bit_8 = bit_adds word 256 8 in
    omega arith

quality-div : (word : ℕ) → number_in word Quality ≡ word / 1024 % 16
quality-div word =
    let bit_10 = bit_adds word 1024 1 in
    let bit_11 = bit_adds word 2048 2 in
    let bit_12 = bit_adds word 4096 4 in
    let bit_13 = bit_adds word 8192 8 in
    omega arith

abbrev half_hours : ℕ → ℕ
half_hours word = 2 * (word / 32 % 16) + word / 512 % 2

half_hours_in-div : (word : ℕ) → half_hours_in word ≡ half_hours word
half_hours_in-div word = let hours = hours-div word in let bit_9 = bit_adds word 512 1 in omega arith

-- an offset by its sign and its size
abbrev pub signed : Bool → ℕ → ℤ
signed minus size = cond minus (neg_ℤ (pos size)) (pos size)

pub offset_is : (word : ℕ) → offset_in word ≡ signed (has_one word 16) (2 * (word / 32 % 16) + word / 512 % 2)
unfolding offset_in
offset_is word =
    let sign : eqb (number_in word OffsetMinus) 1 ≡ has_one word 16 = flag_back (number_in word OffsetMinus) (has_one word 16) (omega arith) in
    rw (sign, half_hours_in-div word) refl

size_of : (minus : Bool) (n : ℕ) → unsigned_abs (signed minus n) ≡ n
size_of true zero = refl
size_of true (suc n) = refl
size_of false n = refl

pub control_is : (word : ℕ) → control_of word ≡ record {
  leap_pending = has_one word 1;
  leap_delete = has_one word 2;
  dst_pending = has_one word 4;
  dst = has_one word 8;
  offset_half_hours = offset_in word;
  quality = word / 1024 % 16;
}
unfolding control_of
control_is word =
    let bit_0 : eqb (number_in word LeapPending) 1 ≡ has_one word 1 = flag_back (number_in word LeapPending) (has_one word 1) (omega arith) in
    let bit_1 : eqb (number_in word LeapDelete) 1 ≡ has_one word 2 = flag_back (number_in word LeapDelete) (has_one word 2) (omega arith) in
    let bit_2 : eqb (number_in word DstPending) 1 ≡ has_one word 4 = flag_back (number_in word DstPending) (has_one word 4) (omega arith) in
    let bit_3 : eqb (number_in word Dst) 1 ≡ has_one word 8 = flag_back (number_in word Dst) (has_one word 8) (omega arith) in
    rw (bit_0, bit_1, bit_2, bit_3, quality-div word) refl

control_of-fits : (word : ℕ) → IsControl (control_of word)
control_of-fits word =
    let size : unsigned_abs (offset_in word) ≡ half_hours word = ap unsigned_abs (offset_is word) ∙ size_of (has_one word 16) (half_hours word) in
    rw (control_is word) (record { offset = omega arith; quality = omega arith })

-- ---- one after the other

same : (a b : Control) → a.leap_pending ≡ b.leap_pending → a.leap_delete ≡ b.leap_delete → a.dst_pending ≡ b.dst_pending → a.dst ≡ b.dst → a.offset_half_hours ≡ b.offset_half_hours → a.quality ≡ b.quality → a ≡ b
same a b p d s t o q = let e : a ≡ record { leap_pending = b.leap_pending; leap_delete = b.leap_delete; dst_pending = b.dst_pending; dst = b.dst; offset_half_hours = b.offset_half_hours; quality = b.quality } = rw (← p, ← d, ← s, ← t, ← o, ← q) refl in e

signed-parts : (z : ℤ) → signed (int_lt z (pos 0)) (unsigned_abs z) ≡ z
signed-parts (pos n) = let plus : ltb n 0 ≡ false = le-ltb n 0 (omega arith) in rw plus refl
signed-parts (negsuc n) = refl

pub unpacked : (c : Control) → IsControl c → control_of (word_of c) ≡ c
unpacked c fits =
    let w = word_of c in
    let z = c.offset_half_hours in
    let sum = word_of-sum c fits in
    let bit_0 = flag_below c.leap_pending in
    let bit_1 = flag_below c.leap_delete in
    let bit_2 = flag_below c.dst_pending in
    let bit_3 = flag_below c.dst in
    let bit_4 = flag_below (int_lt z (pos 0)) in
    let offset = fits.offset in
    let quality = fits.quality in
    let size : half_hours w ≡ unsigned_abs z = omega arith in
    let sign : has_one w 16 ≡ int_lt z (pos 0) = flag_back (w / 16 % 2) (int_lt z (pos 0)) (omega arith) in
    same (control_of w) c
    (rw (control_is w) (flag_back (w / 1 % 2) c.leap_pending (omega arith)))
    (rw (control_is w) (flag_back (w / 2 % 2) c.leap_delete (omega arith)))
    (rw (control_is w) (flag_back (w / 4 % 2) c.dst_pending (omega arith)))
    (rw (control_is w) (flag_back (w / 8 % 2) c.dst (omega arith)))
    (rw (control_is w, offset_is w, sign, size) (signed-parts z))
    (rw (control_is w) (omega arith))

-- a zero has no sign
sign_of : (minus : Bool) (n : ℕ) → flag (int_lt (signed minus n) (pos 0)) ≡ cond (eqb n 0) 0 (flag minus)
sign_of true zero = refl
sign_of false zero = refl
sign_of true (suc n) = let some : eqb (suc n) 0 ≡ false = ne_eqb (suc n) 0 (λ e. omega (arith, e)) in rw some refl
sign_of false (suc n) =
    let plus : ltb (suc n) 0 ≡ false = le-ltb (suc n) 0 (omega arith) in
    let some : eqb (suc n) 0 ≡ false = ne_eqb (suc n) 0 (λ e. omega (arith, e)) in
    rw (plus, some) refl

cleared-cond : (w : ℕ) → normal_word w ≡ cond (eqb (half_hours w) 0) (w % 2 ^ 14 - 16 * (w / 16 % 2)) (w % 2 ^ 14)
unfolding normal_word
cleared-cond w =
    let minus = bit_adds w 16 1 in
    let sign : word_with OffsetMinus (number_in w OffsetMinus) ≡ 16 * (w / 16 % 2) = omega (arith, only_bit_adds (number_in w OffsetMinus) 16 (omega arith)) in
    rw (half_hours_in-div w, sign) refl

pub packed : (w : ℕ) → word_of (control_of w) ≡ normal_word w
packed w =
    let n = half_hours w in
    let minus = has_one w 16 in
    let sum = word_of-sum (control_of w) (control_of-fits w) in
    let bit_0 = bit_adds w 1 1 in
    let bit_1 = bit_adds w 2 1 in
    let bit_2 = bit_adds w 4 1 in
    let bit_3 = bit_adds w 8 1 in
    let bit_4 = bit_adds w 16 1 in
    elim (cases_Bool (eqb n 0)) [
      | inl none ↦ rw (sum, control_is w, offset_is w, size_of minus n, sign_of minus n, cleared-cond w, none) (omega (arith, eqb-true n 0 none))
      | inr some ↦ rw (sum, control_is w, offset_is w, size_of minus n, sign_of minus n, cleared-cond w, some) (omega arith)
    ]

-- the bits below the parity say all
pub same_bits : (v w : ℕ) → v / 1 % 2 ≡ w / 1 % 2 → v / 2 % 2 ≡ w / 2 % 2 → v / 4 % 2 ≡ w / 4 % 2 → v / 8 % 2 ≡ w / 8 % 2 → v / 16 % 2 ≡ w / 16 % 2 → v / 32 % 16 ≡ w / 32 % 16 → v / 512 % 2 ≡ w / 512 % 2 → v / 1024 % 16 ≡ w / 1024 % 16 → control_of v ≡ control_of w
same_bits v w a b d e f g h i = rw (control_is v, control_is w, offset_is v, offset_is w, a, b, d, e, f, g, h, i) refl

pub control_same : (w : ℕ) (b : Bool) → control_of (w + 2 ^ 14 * flag b) ≡ control_of w
control_same w b =
    same_bits (w + 2 ^ 14 * flag b) w (omega arith) (omega arith) (omega arith) (omega arith) (omega arith) (omega arith) (omega arith) (omega arith)

-- half hours are the same as an i8
pub in_byte : (half_hours : ℤ) → unsigned_abs half_hours ≤ 31 → to_z w8 (of_z w8 half_hours) ≡ half_hours
in_byte half_hours small = omega (arith, ints)
