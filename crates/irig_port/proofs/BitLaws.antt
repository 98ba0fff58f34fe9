-- The bits of some symbols: with one more symbol, and where a digit stands in them.
use Rattle.std.proofs.Common.{◌≡◌, ℕ, zero, suc, ◌+◌, ◌*◌, ◌/◌, ◌%◌, ◌^◌, ◌<◌, ◌≤◌, Bool, true, false, cond, eqb, List, [], ◌∷◌, ◌++◌, length, Option, Some, None, slice_get, refl, sym, zero-add, add-zero, ap, ◌∙◌, arith, subst, inl, inr}
use Rattle.std.proofs.Math.Nat.{mul-add, mul_assoc, mul_comm, pow-succ'}
use Rattle.std.specs.List.{range_with_len}
use Rattle.std.specs.Prelude.{count_ones, count_by}
use Rattle.std.proofs.lemmas.Bool.{ne_eqb, cases_Bool, cases_lt, eqb-true, both_ways}
use Rattle.std.proofs.lemmas.List.Sums.{sum_by-cons}
use Rattle.std.proofs.lemmas.Option.{slice_get_past}
use Rattle.std.proofs.lemmas.Nat.{shr-shr, mod-pow-add, ones_cat, ones_le_self, zero_from_ones}
use Rattle.irig_frame.specs.declared.symbol.Symbol.{Symbol}
use Rattle.irig_frame.specs.declared.symbol.Symbol.TheVariants.{Zero, One, Marker, Bad}
use Rattle.irig_frame.specs.FieldTable.{TableEntry, at, is_marker_place}
use Rattle.irig_frame.specs.Decoder.{IsRight}
use Rattle.irig_frame.specs.Faults.{first_wrong}
use Rattle.irig_frame.proofs.ReadingLaws.{all_right}
use Rattle.irig_frame.proofs.WritingLaws.{ones as held, by_sum}
use Rattle.irig_control.specs.Parity.{ones, is_counted}
use Rattle.irig_frame.specs.Values.{is_one, value}
use Rattle.irig_port.specs.Bits.{bits_from, time_bits, control_bits, bits_at, counted_ones}
use Rattle.irig_port.proofs.SumLaws.{place-push, cond-same}

abbrev pub bit_of : List Symbol → ℕ → ℕ
bit_of s i = cond (is_one (slice_get s i)) 1 0

pub cond-le-one : (b : Bool) → cond b 1 0 ≤ 1
cond-le-one true = omega arith
cond-le-one false = omega arith

-- ---- one more symbol

-- an element that is not the new one is as it was
bit-other : (s : List Symbol) (x : Symbol) (i : ℕ) → (i ≡ length s → ⊥) → bit_of (s ++ x ∷ []) i ≡ bit_of s i
bit-other s x i h = place-push s x i 1 ∙ rw (ne_eqb i (length s) h, cond-same (is_one (Some x))) (add-zero (bit_of s i))

bit-new : (s : List Symbol) (x : Symbol) → bit_of (s ++ x ∷ []) (length s) ≡ bit_of s (length s) + cond (is_one (Some x)) 1 0
bit-new [] x = sym (zero-add (cond (is_one (Some x)) 1 0))
bit-new (y ∷ s) x = bit-new s x

bits-before : (i n : ℕ) (s : List Symbol) (x : Symbol) → i + n ≤ length s → bits_from i n (s ++ x ∷ []) ≡ bits_from i n s
bits-before i zero s x h = refl
bits-before i (suc n) s x h =
    let here = bit-other s x i (λ e. omega (arith, h, e)) in
    let rest = bits-before (i + 1) n s x (omega (arith, h)) in
    omega (arith, here, rest)

bits-after : (i n : ℕ) (s : List Symbol) (x : Symbol) → length s < i → bits_from i n (s ++ x ∷ []) ≡ bits_from i n s
bits-after i zero s x h = refl
bits-after i (suc n) s x h =
    let here = bit-other s x i (λ e. omega (arith, h, e)) in
    let rest = bits-after (i + 1) n s x (omega (arith, h)) in
    omega (arith, here, rest)

cond-double : (b : Bool) (n : ℕ) → cond b (2 * n) 0 ≡ 2 * cond b n 0
cond-double true n = refl
cond-double false n = refl

-- a one more symbol is one more bit
bits-push : (k i n : ℕ) (s : List Symbol) (x : Symbol) → length s ≡ i + k → k < n
    → bits_from i n (s ++ x ∷ []) ≡ bits_from i n s + cond (is_one (Some x)) (2 ^ k) 0
bits-push k i zero s x at_k h = absurd (omega (arith, h))
bits-push zero i (suc n) s x at_k h =
    let is : i ≡ length s = omega (arith, at_k) in
    let here : bit_of (s ++ x ∷ []) i ≡ bit_of s i + cond (is_one (Some x)) 1 0 = rw is (bit-new s x) in
    let rest = bits-after (i + 1) n s x (omega (arith, at_k)) in
    omega (arith, here, rest)
bits-push (suc k) i (suc n) s x at_k h =
    let here = bit-other s x i (λ e. omega (arith, at_k, e)) in
    let rest = bits-push k (i + 1) n s x (omega (arith, at_k)) (omega (arith, h)) in
    let twice : cond (is_one (Some x)) (2 ^ suc k) 0 ≡ 2 * cond (is_one (Some x)) (2 ^ k) 0 = rw (pow-succ' 2 k) (cond-double (is_one (Some x)) (2 ^ k)) in
    omega (arith, here, rest, twice)

pub bits-lt : (i n : ℕ) (s : List Symbol) → bits_from i n s < 2 ^ n
bits-lt i zero s = omega arith
bits-lt i (suc n) s = omega (arith, cond-le-one (is_one (slice_get s i)), bits-lt (i + 1) n s, pow-succ' 2 n)

pub time-push : (s : List Symbol) (x : Symbol) → length s < 60
    → (time_bits s + cond (is_one (Some x)) (2 ^ length s) 0) % 18446744073709551616 ≡ time_bits (s ++ x ∷ [])
unfolding time_bits
time-push s x h = omega (arith, bits-push (length s) 0 60 s x (sym (zero-add (length s))) h, bits-lt 0 60 (s ++ x ∷ []))

pub time-kept : (s : List Symbol) (x : Symbol) → 60 ≤ length s → time_bits (s ++ x ∷ []) ≡ time_bits s
unfolding time_bits
time-kept s x h = bits-before 0 60 s x h

pub control-push : (s : List Symbol) (x : Symbol) (k : ℕ) → length s ≡ 60 + k → k < 40
    → (control_bits s + cond (is_one (Some x)) (2 ^ k) 0) % 18446744073709551616 ≡ control_bits (s ++ x ∷ [])
unfolding control_bits
control-push s x k at_k h = omega (arith, bits-push k 60 40 s x at_k h, bits-lt 60 40 (s ++ x ∷ []))

pub control-kept : (s : List Symbol) (x : Symbol) → length s < 60 → control_bits (s ++ x ∷ []) ≡ control_bits s
unfolding control_bits
control-kept s x h = bits-after 60 40 s x h

-- ---- where a digit stands

halved : (i n : ℕ) (s : List Symbol) → bits_from i (suc n) s / 2 ≡ bits_from (i + 1) n s
halved i n s = omega (arith, cond-le-one (is_one (slice_get s i)))

shifted : (p m i j n : ℕ) (s : List Symbol) → m ≡ p + n → j ≡ i + p → bits_from i m s / 2 ^ p ≡ bits_from j n s
shifted zero m i j n s total there =
    let same : m ≡ n = omega (arith, total) in
    let begins : j ≡ i = omega (arith, there) in
    rw (same, begins) (omega arith)
shifted (suc p) zero i j n s total there = absurd (omega (arith, total))
shifted (suc p) (suc m) i j n s total there =
    let rest = shifted p m (i + 1) j n s (omega (arith, total)) (omega (arith, there)) in
    let more : suc p ≡ 1 + p = omega arith in
    let twice : bits_from i (suc m) s / 2 ^ 1 / 2 ^ p ≡ bits_from i (suc m) s / 2 ^ suc p = rw more (shr-shr (bits_from i (suc m) s) 1 p) in
    sym twice ∙ (ap (λ (k : ℕ). k / 2 ^ p) (halved i m s) ∙ rest)

lowest_bit : (i n : ℕ) (s : List Symbol) → bits_from i (suc n) s % 2 ≡ bit_of s i
lowest_bit i n s = omega (arith, cond-le-one (is_one (slice_get s i)))

cut : (k m i n : ℕ) (s : List Symbol) → m ≡ k + n → bits_from i m s % 2 ^ k ≡ bits_from i k s
cut zero m i n s total = omega arith
cut (suc k) zero i n s total = absurd (omega (arith, total))
cut (suc k) (suc m) i n s total =
    let rest = cut k m (i + 1) n s (omega (arith, total)) in
    let parts = mod-pow-add (bits_from i (suc m) s) k 1 in
    let high : bits_from i (suc m) s / 2 ^ 1 % 2 ^ k ≡ bits_from (i + 1) k s = ap (λ (x : ℕ). x % 2 ^ k) (halved i m s) ∙ rest in
    let low : bits_from i (suc m) s % 2 ^ 1 ≡ bit_of s i = lowest_bit i m s in
    let sum : (bits_from i (suc m) s / 2 ^ 1 % 2 ^ k) * 2 ^ 1 + bits_from i (suc m) s % 2 ^ 1 ≡ bits_from i (suc k) s = rw (high, low) (omega arith) in
    let more : suc k ≡ k + 1 = omega arith in
    let whole : bits_from i (suc m) s % 2 ^ suc k ≡ (bits_from i (suc m) s / 2 ^ 1 % 2 ^ k) * 2 ^ 1 + bits_from i (suc m) s % 2 ^ 1 = rw more parts in
    whole ∙ sum

digit : (p k n m i : ℕ) (s : List Symbol) → m ≡ p + (k + n) → bits_at (bits_from i m s) p k ≡ bits_from (i + p) k s
digit p k n m i s total = ap (λ (x : ℕ). x % 2 ^ k) (shifted p m i (i + p) (k + n) s total refl) ∙ cut k (k + n) (i + p) n s refl

-- ---- elements of which each has twice the weight of the one before

abbrev pub doubling : ℕ → ℕ → ℕ → List TableEntry
doubling i w zero = []
doubling i w (suc n) = at i w ∷ doubling (i + 1) (2 * w) n

cond-times : (b : Bool) (w : ℕ) → cond b w 0 ≡ w * cond b 1 0
cond-times true w = omega arith
cond-times false w = omega arith

held-doubling : (n i w : ℕ) (s : List Symbol) → held (doubling i w n) s ≡ w * bits_from i n s
held-doubling zero i w s = omega arith
held-doubling (suc n) i w s =
    let here = cond-times (is_one (slice_get s i)) w in
    let rest = held-doubling n (i + 1) (2 * w) s in
    let apart = mul-add w (bit_of s i) (2 * bits_from (i + 1) n s) in
    let moved : 2 * w * bits_from (i + 1) n s ≡ w * (2 * bits_from (i + 1) n s) = rw (mul_comm 2 w) (mul_assoc w 2 (bits_from (i + 1) n s)) in
    omega (arith, here, rest, apart, moved)

pub value-doubling : (n i w : ℕ) (s : List Symbol) → value (doubling i w n) s ≡ w * bits_from i n s
value-doubling n i w s = by_sum (doubling i w n) s ∙ held-doubling n i w s

pub time-digit : (s : List Symbol) (p k n w : ℕ) → 60 ≡ p + (k + n) → value (doubling p w k) s ≡ w * bits_at (time_bits s) p k
unfolding time_bits
time-digit s p k n w total = value-doubling k p w s ∙ ap (λ (x : ℕ). w * x) (sym there)
  where
    there : bits_at (bits_from 0 60 s) p k ≡ bits_from p k s
    there = digit p k n 60 0 s total ∙ rw (zero-add p) refl

pub control-digit : (s : List Symbol) (p k n w : ℕ) → 40 ≡ p + (k + n) → value (doubling (60 + p) w k) s ≡ w * bits_at (control_bits s) p k
unfolding control_bits
control-digit s p k n w total = value-doubling k (60 + p) w s ∙ ap (λ (x : ℕ). w * x) (sym (digit p k n 40 60 s total))

-- ---- how many bits are ones

-- how many of n elements from i on are ones
abbrev ones_from : ℕ → ℕ → List Symbol → ℕ
ones_from i zero s = 0
ones_from i (suc n) s = bit_of s i + ones_from (i + 1) n s

ones-bit : (b : Bool) → count_ones (cond b 1 0) ≡ cond b 1 0
ones-bit true =
    elim (cases_Bool (eqb (count_ones 1) 0)) [
      | inl none ↦ absurd (omega (arith, zero_from_ones 1 (eqb-true (count_ones 1) 0 none)))
      | inr some ↦
          let is : count_ones 1 ≡ 0 → ⊥ = λ e. absurd cc in
          omega (arith, ones_le_self 1, is)
    ]
ones-bit false = omega (arith, ones_le_self 0)

ones-bits : (i n : ℕ) (s : List Symbol) → count_ones (bits_from i n s) ≡ ones_from i n s
ones-bits i zero s = omega (arith, ones_le_self 0)
ones-bits i (suc n) s =
    let rest = ones-bits (i + 1) n s in
    let apart : bits_from i (suc n) s ≡ bits_from (i + 1) n s * 2 ^ 1 + bit_of s i = omega arith in
    let sum = ones_cat 1 (bits_from (i + 1) n s) (bit_of s i) (omega (arith, cond-le-one (is_one (slice_get s i)))) in
    let here = ones-bit (is_one (slice_get s i)) in
    ap count_ones apart ∙ (sum ∙ omega (arith, rest, here))

ones-split : (k n i : ℕ) (s : List Symbol) → ones_from i (k + n) s ≡ ones_from i k s + ones_from (i + k) n s
ones-split zero n i s =
    let there : i + 0 ≡ i = add-zero i in
    rw there (ap (λ (k : ℕ). ones_from i k s) (zero-add n) ∙ sym (zero-add (ones_from i n s)))
ones-split (suc k) n i s =
    let there : i + 1 + k ≡ i + suc k = omega arith in
    let rest = ones-split k n (i + 1) s ∙ ap (λ (j : ℕ). ones_from (i + 1) k s + ones_from j n s) there in
    let more : suc k + n ≡ suc (k + n) = omega arith in
    ap (λ (m : ℕ). ones_from i m s) more ∙ omega (arith, rest)

-- no marker place holds a one
abbrev pub HasRightMarkers : List Symbol → Type 0
HasRightMarkers s = (i : ℕ) → is_marker_place i ≡ true → is_one (slice_get s i) ≡ false

-- a marker place where nothing is wrong holds no one
no_one : (i : ℕ) (o : Option Symbol) → IsRight i o → is_marker_place i ≡ true → is_one o ≡ false
no_one i None h m = refl
no_one i (Some Zero) h m = refl
no_one i (Some One) h m = absurd (both_ways _ h m)
no_one i (Some Marker) h m = refl
no_one i (Some Bad) h m = refl

pub right-markers : (s : List Symbol) → first_wrong 0 s ≡ None → HasRightMarkers s
right-markers s h i m =
    elim (cases_lt i (length s)) [
      | inl low ↦ no_one i (slice_get s i) (subst (λ (j : ℕ). IsRight j (slice_get s i)) (zero-add i) (all_right 0 s h i low)) m
      | inr past ↦ rw (slice_get_past s i past) refl
    ]

counted-bit : (s : List Symbol) → HasRightMarkers s → (i : ℕ) → cond (is_counted s i) 1 0 ≡ bit_of s i
counted-bit s h i =
    elim (cases_Bool (is_marker_place i)) [
      | inl on ↦ rw (on, h i on) refl
      | inr off ↦ rw off refl
    ]

counted-from : (n i : ℕ) (s : List Symbol) → HasRightMarkers s → count_by (is_counted s) (range_with_len i n) ≡ ones_from i n s
counted-from zero i s h = refl
counted-from (suc n) i s h =
    let first = sum_by-cons (λ k. cond (is_counted s k) 1 0) i (range_with_len (i + 1) n) in
    let rest = counted-from n (i + 1) s h in
    omega (arith, first, rest, counted-bit s h i)

-- the ones that the parity counts of a frame without a wrong element
pub ones-counted : (s : List Symbol) → first_wrong 0 s ≡ None → counted_ones (time_bits s) (control_bits s) ≡ ones s
unfolding time_bits control_bits ones
ones-counted s h =
    let right = right-markers s h in
    let low = ones-bits 0 60 s in
    let high : count_ones (bits_from 60 40 s % 2 ^ 16) ≡ ones_from 60 16 s = ap count_ones (cut 16 40 60 24 s refl) ∙ ones-bits 60 16 s in
    let whole : ones_from 0 76 s ≡ ones_from 0 60 s + ones_from 60 16 s = ones-split 60 16 0 s in
    let first : bit_of s 0 ≡ 0 = rw (right 0 refl) refl in
    let counted : count_by (is_counted s) (range_with_len 1 75) ≡ ones_from 1 75 s = counted-from 75 1 s right in
    omega (arith, low, high, whole, first, counted)
