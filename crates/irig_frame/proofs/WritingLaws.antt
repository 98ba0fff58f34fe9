-- What is written into a frame reads back.
use Rattle.std.proofs.Common.{◌≡◌, ℕ, zero, suc, ◌+◌, ◌*◌, ◌/◌, ◌%◌, ◌<◌, ◌≤◌, Bool, true, false, not, ◌&&◌, ◌||◌, cond, eqb, nat_lt, List, [], ◌∷◌, ◌++◌, length, Option, Some, slice_get, slice_set, refl, sym, zero-add, sum, map, filter, ap, subst, ◌∙◌, arith, inl, inr}
use Rattle.std.proofs.lemmas.Bool.{eqb-true, eqb-false, ltb-true, and_parts, or_parts, cases_eq, cases_Bool, not-true}
use Rattle.std.proofs.lemmas.List.{length-set}
use Rattle.std.proofs.lemmas.List.Sums.{sum_by-cons}
use Rattle.std.proofs.Math.Nat.{div-div-eq-div-mul}
use Rattle.std.specs.List.{AllByRecursion}
use Rattle.irig_frame.specs.declared.symbol.Symbol.{Symbol}
use Rattle.irig_frame.specs.declared.symbol.Symbol.TheVariants.{Zero, One, Marker}
use Rattle.irig_frame.specs.declared.layout.BitPosition.{BitPosition}
use Rattle.irig_frame.specs.Values.{is_one, is_one_at, value}
use Rattle.irig_frame.specs.FieldTable.{is_marker_place}
use Rattle.irig_frame.specs.Decoder.{IsRight}
use Rattle.irig_frame.specs.Encoder.{bit_symbol, with_bits, Part, with_parts, blank_at, IsBlank}

pub get-set_same : {A : Type 0} (s : List A) (i : ℕ) (x : A) → i < length s → slice_get (slice_set s i x) i ≡ Some x
get-set_same [] i x h = absurd (omega arith)
get-set_same (y ∷ s) zero x h = refl
get-set_same (y ∷ s) (suc i) x h = get-set_same s i x (omega arith)

pub get-set_other : {A : Type 0} (s : List A) (i j : ℕ) (x : A) → (i ≡ j → ⊥) → slice_get (slice_set s i x) j ≡ slice_get s j
get-set_other [] i j x h = refl
get-set_other (y ∷ s) zero zero x h = absurd (h refl)
get-set_other (y ∷ s) zero (suc j) x h = refl
get-set_other (y ∷ s) (suc i) zero x h = refl
get-set_other (y ∷ s) (suc i) (suc j) x h = get-set_other s i j x (λ e. h (ap suc e))

-- ---- which elements a table has

abbrev pub has : ℕ → List BitPosition → Bool
has i [] = false
has i (p ∷ ps) = eqb p.element i || has i ps

-- the places are different elements of the frame, and no markers
abbrev pub are_plain : List BitPosition → Bool
are_plain [] = true
are_plain (p ∷ ps) = not (has p.element ps) && (nat_lt p.element 100 && (not (is_marker_place p.element) && are_plain ps))

-- the tables share no element
abbrev pub are_apart : List BitPosition → List BitPosition → Bool
are_apart [] qs = true
are_apart (p ∷ ps) qs = not (has p.element qs) && are_apart ps qs

pub with_bits_other : (s : List Symbol) (ps : List BitPosition) (n i : ℕ) → has i ps ≡ false → slice_get (with_bits s ps n) i ≡ slice_get s i
with_bits_other s [] n i h = refl
with_bits_other s (p ∷ ps) n i h =
    let parts = or_parts (eqb p.element i) (has i ps) h in
    with_bits_other (slice_set s p.element (bit_symbol n p.weight)) ps n i parts.1 ∙ get-set_other s p.element i (bit_symbol n p.weight) (eqb-false p.element i parts.0)

pub length-with_bits : (s : List Symbol) (ps : List BitPosition) (n : ℕ) → length (with_bits s ps n) ≡ length s
length-with_bits s [] n = refl
length-with_bits s (p ∷ ps) n = length-with_bits (slice_set s p.element (bit_symbol n p.weight)) ps n ∙ length-set s p.element (bit_symbol n p.weight)

-- ---- sums by recursion

abbrev pub ones : List BitPosition → List Symbol → ℕ
ones [] s = 0
ones (p ∷ ps) s = cond (is_one_at s p) p.weight 0 + ones ps s

sum-cons : (x : ℕ) (xs : List ℕ) → sum (x ∷ xs) ≡ x + sum xs
sum-cons x xs = sum_by-cons (λ n. n) x xs

pub by_sum : (ps : List BitPosition) (s : List Symbol) → value ps s ≡ ones ps s
by_sum [] s = refl
by_sum (p ∷ ps) s =
    elim (cases_Bool (is_one_at s p)) [
      | inl on ↦ rw on (sum-cons p.weight (map (λ q. q.weight) (filter (is_one_at s) ps)) ∙ ap (λ n. p.weight + n) (by_sum ps s))
      | inr off ↦ rw off (by_sum ps s ∙ sym (zero-add (ones ps s)))
    ]

pub ones-append : (a b : List BitPosition) (s : List Symbol) → ones (a ++ b) s ≡ ones a s + ones b s
ones-append [] b s = sym (zero-add (ones b s))
ones-append (p ∷ a) b s = rw (ones-append a b s) (omega arith)

pub value-append : (a b : List BitPosition) (s : List Symbol) → value (a ++ b) s ≡ value a s + value b s
value-append a b s = omega (arith, by_sum (a ++ b) s, by_sum a s, by_sum b s, ones-append a b s)

abbrev pub bits : List BitPosition → ℕ → ℕ
bits [] n = 0
bits (p ∷ ps) n = cond (eqb (n / p.weight % 2) 1) p.weight 0 + bits ps n

is_one-bit : (b : Bool) → is_one (Some (cond b One Zero)) ≡ b
is_one-bit true = refl
is_one-bit false = refl

pub ones_apart : (qs ps : List BitPosition) (s : List Symbol) (n : ℕ) → are_apart qs ps ≡ true → ones qs (with_bits s ps n) ≡ ones qs s
ones_apart [] ps s n h = refl
ones_apart (q ∷ qs) ps s n h =
    let parts = and_parts (not (has q.element ps)) (are_apart qs ps) h in
    rw (with_bits_other s ps n q.element (not-true _ parts.0), ones_apart qs ps s n parts.1) refl

pub ones_same : (ps : List BitPosition) (s : List Symbol) (n : ℕ) → are_plain ps ≡ true → 100 ≤ length s → ones ps (with_bits s ps n) ≡ bits ps n
ones_same [] s n h long = refl
ones_same (p ∷ ps) s n h long =
    let a = and_parts (not (has p.element ps)) (nat_lt p.element 100 && (not (is_marker_place p.element) && are_plain ps)) h in
    let b = and_parts (nat_lt p.element 100) (not (is_marker_place p.element) && are_plain ps) a.1 in
    let d = and_parts (not (is_marker_place p.element)) (are_plain ps) b.1 in
    let x = bit_symbol n p.weight in
    let t = slice_set s p.element x in
    let low : p.element < length s = omega (arith, ltb-true p.element 100 b.0) in
    let here : slice_get (with_bits t ps n) p.element ≡ Some x = with_bits_other t ps n p.element (not-true _ a.0) ∙ get-set_same s p.element x low in
    let rest : ones ps (with_bits t ps n) ≡ bits ps n = ones_same ps t n d.1 (omega (arith, length-set s p.element x)) in
    rw (here, rest, is_one-bit (eqb (n / p.weight % 2) 1)) refl

-- ---- the bits of a number

-- each weight is twice the one before
abbrev pub doubles : ℕ → List BitPosition → Bool
doubles w [] = true
doubles w (p ∷ ps) = eqb p.weight w && doubles (w * 2) ps

abbrev pub top : ℕ → List BitPosition → ℕ
top w [] = w
top w (p ∷ ps) = top (w * 2) ps

bit_is : (b w : ℕ) → b < 2 → cond (eqb b 1) w 0 ≡ w * b
bit_is zero w h = omega arith
bit_is (suc zero) w h = omega arith
bit_is (suc (suc b)) w h = absurd (omega arith)

pub bits_sum : (w : ℕ) (ps : List BitPosition) (n : ℕ) → 0 < w → doubles w ps ≡ true → bits ps n + top w ps * (n / top w ps) ≡ w * (n / w)
bits_sum w [] n pos h = omega arith
bits_sum w (p ∷ ps) n pos h =
    let parts = and_parts (eqb p.weight w) (doubles (w * 2) ps) h in
    let here : p.weight ≡ w = eqb-true p.weight w parts.0 in
    let rest = bits_sum (w * 2) ps n (omega arith) parts.1 in
    let half : n / w / 2 ≡ n / (w * 2) = div-div-eq-div-mul n w 2 in
    let q = n / w in
    let split : q ≡ 2 * (q / 2) + q % 2 = omega arith in
    let bit : cond (eqb (q % 2) 1) w 0 ≡ w * (q % 2) = bit_is (q % 2) w (omega arith) in
    let whole : w * q ≡ w * 2 * (n / (w * 2)) + w * (q % 2) = ap (λ (k : ℕ). w * k) split ∙ rw (← half) (omega arith) in
    rw here (omega (arith, rest, whole, bit))

-- ---- several tables

abbrev pub are_apart_from : List BitPosition → List Part → Bool
are_apart_from qs [] = true
are_apart_from qs (p ∷ ps) = are_apart qs p.places && are_apart_from qs ps

-- each table has different data places, and no two share one
abbrev pub are_disjoint : List Part → Bool
are_disjoint [] = true
are_disjoint (p ∷ ps) = are_plain p.places && (are_apart_from p.places ps && are_disjoint ps)

-- each table holds the bits of its number
abbrev pub HoldParts : List Symbol → List Part → Type 0
HoldParts s [] = Unit {0}
HoldParts s (p ∷ ps) = (value p.places s ≡ bits p.places p.number) × HoldParts s ps

ones_apart_from : (qs : List BitPosition) (ps : List Part) (s : List Symbol) → are_apart_from qs ps ≡ true → ones qs (with_parts s ps) ≡ ones qs s
ones_apart_from qs [] s h = refl
ones_apart_from qs (p ∷ ps) s h =
    let parts = and_parts (are_apart qs p.places) (are_apart_from qs ps) h in
    ones_apart_from qs ps (with_bits s p.places p.number) parts.1 ∙ ones_apart qs p.places s p.number parts.0

pub hold_parts : (ps : List Part) (s : List Symbol) → are_disjoint ps ≡ true → 100 ≤ length s → HoldParts (with_parts s ps) ps
hold_parts [] s h long = tt
hold_parts (p ∷ ps) s h long =
    let a = and_parts (are_plain p.places) (are_apart_from p.places ps && are_disjoint ps) h in
    let b = and_parts (are_apart_from p.places ps) (are_disjoint ps) a.1 in
    let t = with_bits s p.places p.number in (
      by_sum p.places (with_parts t ps) ∙ ones_apart_from p.places ps t b.0 ∙ ones_same p.places s p.number a.0 long,
      hold_parts ps t b.1 (omega (arith, length-with_bits s p.places p.number)),
    )

pub length-with_parts : (ps : List Part) (s : List Symbol) → length (with_parts s ps) ≡ length s
length-with_parts [] s = refl
length-with_parts (p ∷ ps) s = length-with_parts ps (with_bits s p.places p.number) ∙ length-with_bits s p.places p.number

-- ---- elements

abbrev pub AllRight : List Symbol → Type 0
AllRight s = (i : ℕ) → i < length s → IsRight i (slice_get s i)

right_bit : (b : Bool) (i : ℕ) → is_marker_place i ≡ false → IsRight i (Some (cond b One Zero))
right_bit true i h = h
right_bit false i h = h

right_bits : (ps : List BitPosition) (s : List Symbol) (n : ℕ) → are_plain ps ≡ true → AllRight s → AllRight (with_bits s ps n)
right_bits [] s n h r = r
right_bits (p ∷ ps) s n h r =
    let a = and_parts (not (has p.element ps)) (nat_lt p.element 100 && (not (is_marker_place p.element) && are_plain ps)) h in
    let b = and_parts (nat_lt p.element 100) (not (is_marker_place p.element) && are_plain ps) a.1 in
    let d = and_parts (not (is_marker_place p.element)) (are_plain ps) b.1 in
    let x = bit_symbol n p.weight in
    let t = slice_set s p.element x in
    let right : AllRight t = λ i lt. let low : i < length s = omega (arith, length-set s p.element x) in
    elim (cases_eq p.element i) [
      | inl e ↦ subst (λ (j : ℕ). IsRight j (slice_get t j)) e (subst (λ (o : Option Symbol). IsRight p.element o) (sym (get-set_same s p.element x (omega (arith, e)))) (right_bit (eqb (n / p.weight % 2) 1) p.element (not-true _ d.0)))
      | inr apart ↦ subst (λ (o : Option Symbol). IsRight i o) (sym (get-set_other s p.element i x apart)) (r i low)
    ] in
    right_bits ps t n d.1 right

pub right_parts : (ps : List Part) (s : List Symbol) → are_disjoint ps ≡ true → AllRight s → AllRight (with_parts s ps)
right_parts [] s h r = r
right_parts (p ∷ ps) s h r =
    let a = and_parts (are_plain p.places) (are_apart_from p.places ps && are_disjoint ps) h in
    let b = and_parts (are_apart_from p.places ps) (are_disjoint ps) a.1 in
    right_parts ps (with_bits s p.places p.number) b.1 (right_bits p.places s p.number a.0 r)

right_blank_at : (i : ℕ) (b : Bool) → is_marker_place i ≡ b → IsRight i (Some (cond b Marker Zero))
right_blank_at i true e = e
right_blank_at i false e = e

pub right_blank : (s : List Symbol) → IsBlank s → AllRight s
right_blank s h i lt =
    subst (λ (o : Option Symbol). IsRight i o) (sym (h.1 i (omega (arith, h.0)))) (right_blank_at i (is_marker_place i) refl)

-- ---- what is left

abbrev pub is_outside : ℕ → List Part → Bool
is_outside i [] = true
is_outside i (p ∷ ps) = not (has i p.places) && is_outside i ps

with_parts_other : (ps : List Part) (s : List Symbol) (i : ℕ) → is_outside i ps ≡ true → slice_get (with_parts s ps) i ≡ slice_get s i
with_parts_other [] s i h = refl
with_parts_other (p ∷ ps) s i h =
    let a = and_parts (not (has i p.places)) (is_outside i ps) h in
    with_parts_other ps (with_bits s p.places p.number) i a.1 ∙ with_bits_other s p.places p.number i (not-true _ a.0)

abbrev pub are_spare : List ℕ → List Part → Bool
are_spare [] ps = true
are_spare (i ∷ is) ps = (nat_lt i 100 && not (is_marker_place i)) && (is_outside i ps && are_spare is ps)

pub spare_zero : (is : List ℕ) (ps : List Part) (s : List Symbol) → IsBlank s → are_spare is ps ≡ true → AllByRecursion (λ i. slice_get (with_parts s ps) i ≡ Some Zero) is
spare_zero [] ps s blank h = tt
spare_zero (i ∷ is) ps s blank h =
    let a = and_parts (nat_lt i 100 && not (is_marker_place i)) (is_outside i ps && are_spare is ps) h in
    let b = and_parts (nat_lt i 100) (not (is_marker_place i)) a.0 in
    let d = and_parts (is_outside i ps) (are_spare is ps) a.1 in
    let zero_there : blank_at i ≡ Zero = rw (not-true (is_marker_place i) b.1) refl in
    (with_parts_other ps s i d.0 ∙ blank.1 i (ltb-true i 100 b.0) ∙ ap (λ (x : Symbol). Some x) zero_there, spare_zero is ps s blank d.1)
