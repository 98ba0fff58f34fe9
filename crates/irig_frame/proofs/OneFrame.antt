-- Two frames that read alike, with zeros where no field is, are one.
use Rattle.std.proofs.Common.{◌≡◌, ℕ, suc, ◌+◌, ◌*◌, ◌/◌, ◌<◌, ◌≤◌, ◌⊎◌, Bool, true, false, ◌||◌, cond, eqb, All, get_or, List, [], ◌∷◌, ◌++◌, Option, Some, slice_get, refl, sym, ap, subst, ◌∙◌, arith, inl, inr}
use Rattle.std.specs.List.{list_any}
use Rattle.std.proofs.lemmas.Bool.{cases_Bool, or_cases, and_parts, eqb-true, both_ways, agree_below_at}
use Rattle.std.proofs.Math.Nat.{mul-div_cancel_left}
use Rattle.std.proofs.lemmas.List.{same_lists}
use Rattle.std.proofs.lemmas.Option.{slice_get-get_or}
use Rattle.irig_frame.specs.declared.symbol.Symbol.{Symbol}
use Rattle.irig_frame.specs.declared.symbol.Symbol.TheVariants.{Zero, One, Marker, Bad}
use Rattle.irig_frame.specs.declared.layout.Field.{Field}
use Rattle.irig_frame.specs.declared.layout.Field.TheVariants.{Second, Minute, Hour, Day, Year}
use Rattle.irig_frame.specs.declared.layout.BitPosition.{BitPosition}
use Rattle.irig_frame.specs.declared.coded.Coded.{Coded}
use Rattle.irig_frame.specs.Values.{is_one, is_one_at, value}
use Rattle.irig_frame.specs.FieldTable.{units_of, tens_of, hundreds_of, places_of, control_places, straight_binary_places, is_marker_place, spare_places}
use Rattle.irig_frame.specs.Decoder.{Reads, IsRight, HasDigits}
use Rattle.irig_frame.proofs.WritingLaws.{ones, by_sum, ones-append, has, doubles}
use Rattle.irig_frame.proofs.ReadingLaws.{each}

-- the ones of a table whose weights double are a multiple of the first weight
pub multiple : (w : ℕ) (ps : List BitPosition) (s : List Symbol) → doubles w ps ≡ true → (k : ℕ) × (ones ps s ≡ w * k)
multiple w [] s h = (0, omega arith)
multiple w (p ∷ ps) s h =
    let parts = and_parts (eqb p.weight w) (doubles (w * 2) ps) h in
    let weight : p.weight ≡ w = eqb-true p.weight w parts.0 in
    let rest = multiple (w * 2) ps s parts.1 in
    elim (cases_Bool (is_one_at s p)) [
      | inl e ↦ (1 + 2 * rest.0, rw e (omega (arith, rest.1, weight)))
      | inr e ↦ (2 * rest.0, rw e (omega (arith, rest.1)))
    ]

odd_apart : (w k j : ℕ) → 0 < w → w + w * 2 * k ≡ w * 2 * j → ⊥
odd_apart w k j pos e =
    let same : w * (1 + 2 * k) ≡ w * (2 * j) = omega (arith, e) in
    let odd : 1 + 2 * k ≡ 2 * j = sym (mul-div_cancel_left (1 + 2 * k) pos) ∙ ap (λ (x : ℕ). x / w) same ∙ mul-div_cancel_left (2 * j) pos in
    omega (arith, odd)

first_bit : (b c : Bool) (w k j : ℕ) → 0 < w → cond b w 0 + w * 2 * k ≡ cond c w 0 + w * 2 * j → b ≡ c
first_bit true true w k j pos e = refl
first_bit false false w k j pos e = refl
first_bit true false w k j pos e = absurd (odd_apart w k j pos (omega (arith, e)))
first_bit false true w k j pos e = absurd (odd_apart w j k pos (omega (arith, e)))

-- a table whose weights double, and whose ones sum alike, has the same ones
pub same_at : (w : ℕ) (ps : List BitPosition) (s t : List Symbol) (i : ℕ) → 0 < w → doubles w ps ≡ true → ones ps s ≡ ones ps t → has i ps ≡ true → is_one (slice_get s i) ≡ is_one (slice_get t i)
same_at w [] s t i pos h e there = absurd cc
same_at w (p ∷ ps) s t i pos h e there =
    let parts = and_parts (eqb p.weight w) (doubles (w * 2) ps) h in
    let weight : p.weight ≡ w = eqb-true p.weight w parts.0 in
    let ks = multiple (w * 2) ps s parts.1 in
    let kt = multiple (w * 2) ps t parts.1 in
    let sums : cond (is_one_at s p) w 0 + w * 2 * ks.0 ≡ cond (is_one_at t p) w 0 + w * 2 * kt.0 =
    subst (λ (x : ℕ). cond (is_one_at s p) x 0 + w * 2 * ks.0 ≡ cond (is_one_at t p) x 0 + w * 2 * kt.0) weight (omega (arith, e, ks.1, kt.1)) in
    let first : is_one_at s p ≡ is_one_at t p = first_bit (is_one_at s p) (is_one_at t p) w ks.0 kt.0 pos sums in
    let rest : ones ps s ≡ ones ps t = omega (arith, e, ap (λ (b : Bool). cond b p.weight 0) first) in
    elim (or_cases (eqb p.element i) (has i ps) there) [
      | inl here ↦ subst (λ (j : ℕ). is_one (slice_get s j) ≡ is_one (slice_get t j)) (eqb-true p.element i here) first
      | inr later ↦ same_at (w * 2) ps s t i (omega arith) parts.1 rest later
    ]

tens_double : (f : Field) → doubles 10 (tens_of f) ≡ true
tens_double = each (λ f. doubles 10 (tens_of f) ≡ true) refl refl refl refl refl

units_double : (f : Field) → doubles 1 (units_of f) ≡ true
units_double = each (λ f. doubles 1 (units_of f) ≡ true) refl refl refl refl refl

hundreds_double : (f : Field) → doubles 100 (hundreds_of f) ≡ true
hundreds_double = each (λ f. doubles 100 (hundreds_of f) ≡ true) refl refl refl refl refl

abbrev in_field : ℕ → Field → Bool
in_field i f = has i (units_of f) || (has i (tens_of f) || has i (hundreds_of f))

whole : (f : Field) (s : List Symbol) → value (places_of f) s ≡ ones (units_of f) s + ones (tens_of f) s + ones (hundreds_of f) s
whole f s = by_sum (places_of f) s ∙ ones-append (units_of f ++ tens_of f) (hundreds_of f) s ∙ ap (λ (n : ℕ). n + ones (hundreds_of f) s) (ones-append (units_of f) (tens_of f) s)

same_field : (f : Field) (s t : List Symbol) (i : ℕ) → HasDigits s f → HasDigits t f → value (places_of f) s ≡ value (places_of f) t → in_field i f ≡ true → is_one (slice_get s i) ≡ is_one (slice_get t i)
same_field f s t i ds dt e there =
    let us = by_sum (units_of f) s in
    let ut = by_sum (units_of f) t in
    let ts = by_sum (tens_of f) s in
    let tt2 = by_sum (tens_of f) t in
    let a = multiple 10 (tens_of f) s (tens_double f) in
    let at2 = multiple 10 (tens_of f) t (tens_double f) in
    let bs = multiple 100 (hundreds_of f) s (hundreds_double f) in
    let bt = multiple 100 (hundreds_of f) t (hundreds_double f) in
    let sum : ones (units_of f) s + 10 * a.0 + 100 * bs.0 ≡ ones (units_of f) t + 10 * at2.0 + 100 * bt.0 = omega (arith, e, whole f s, whole f t, a.1, at2.1, bs.1, bt.1) in
    let us9 : ones (units_of f) s ≤ 9 = omega (arith, us, ds.0) in
    let ut9 : ones (units_of f) t ≤ 9 = omega (arith, ut, dt.0) in
    let as9 : a.0 ≤ 9 = omega (arith, ts, ds.1, a.1) in
    let at9 : at2.0 ≤ 9 = omega (arith, tt2, dt.1, at2.1) in
    let units : ones (units_of f) s ≡ ones (units_of f) t = omega (arith, sum, us9, ut9) in
    let tens : a.0 ≡ at2.0 = omega (arith, sum, us9, ut9, as9, at9) in
    let hundreds : bs.0 ≡ bt.0 = omega (arith, sum, units, tens) in
    elim (or_cases (has i (units_of f)) (has i (tens_of f) || has i (hundreds_of f)) there) [
      | inl x ↦ same_at 1 (units_of f) s t i (omega arith) (units_double f) units x
      | inr b ↦ elim (or_cases (has i (tens_of f)) (has i (hundreds_of f)) b) [
        | inl x ↦ same_at 10 (tens_of f) s t i (omega arith) (tens_double f) (a.1 ∙ ap (λ (n : ℕ). 10 * n) tens ∙ sym at2.1) x
        | inr x ↦ same_at 100 (hundreds_of f) s t i (omega arith) (hundreds_double f) (bs.1 ∙ ap (λ (n : ℕ). 100 * n) hundreds ∙ sym bt.1) x
      ]
    ]

-- ---- element by element

abbrev is_covered : ℕ → Bool
is_covered i =
    is_marker_place i || (in_field i Second || (in_field i Minute || (in_field i Hour || (in_field i Day || (in_field i Year
    || (has i control_places || (has i straight_binary_places || list_any (λ j. eqb j i) spare_places)))))))

covered : (i : ℕ) → i < 100 → is_covered i ≡ true
covered i h = agree_below_at is_covered (λ _. true) 100 i refl h

from_any : (is : List ℕ) (s : List Symbol) (i : ℕ) → All (λ j. slice_get s j ≡ Some Zero) is → list_any (λ j. eqb j i) is ≡ true → slice_get s i ≡ Some Zero
from_any [] s i h there = absurd cc
from_any (x ∷ xs) s i h there =
    elim (or_cases (eqb x i) (list_any (λ j. eqb j i) xs) there) [
      | inl here ↦ subst (λ (j : ℕ). slice_get s j ≡ Some Zero) (eqb-true x i here) (h 0 x (omega arith))
      | inr later ↦ from_any xs s i (λ k d lt. h (suc k) d (omega arith)) later
    ]

spare_there : (s : List Symbol) (i : ℕ) → All (λ j. slice_get s j ≡ Some Zero) spare_places → list_any (λ j. eqb j i) spare_places ≡ true → slice_get s i ≡ Some Zero
spare_there s i h there = from_any spare_places s i h there

pub same_place : (s t : List Symbol) (c : Coded) (i : ℕ) → Reads s c → Reads t c → All (λ j. slice_get s j ≡ Some Zero) spare_places → All (λ j. slice_get t j ≡ Some Zero) spare_places → i < 100 → (is_marker_place i ≡ true) ⊎ (is_one (slice_get s i) ≡ is_one (slice_get t i))
same_place s t c i a b u v low =
    elim (or_cases _ _ (covered i low)) [
      | inl x ↦ inl x
      | inr r ↦ elim (or_cases _ _ r) [
        | inl x ↦ inr (same_field Second s t i (a.digits Second) (b.digits Second) (sym a.second ∙ b.second) x)
        | inr r2 ↦ elim (or_cases _ _ r2) [
          | inl x ↦ inr (same_field Minute s t i (a.digits Minute) (b.digits Minute) (sym a.minute ∙ b.minute) x)
          | inr r3 ↦ elim (or_cases _ _ r3) [
            | inl x ↦ inr (same_field Hour s t i (a.digits Hour) (b.digits Hour) (sym a.hour ∙ b.hour) x)
            | inr r4 ↦ elim (or_cases _ _ r4) [
              | inl x ↦ inr (same_field Day s t i (a.digits Day) (b.digits Day) (sym a.day ∙ b.day) x)
              | inr r5 ↦ elim (or_cases _ _ r5) [
                | inl x ↦ inr (same_field Year s t i (a.digits Year) (b.digits Year) (sym a.year ∙ b.year) x)
                | inr r6 ↦ elim (or_cases _ _ r6) [
                  | inl x ↦ inr (same_at 1 control_places s t i (omega arith) refl (sym (by_sum control_places s) ∙ sym a.control ∙ b.control ∙ by_sum control_places t) x)
                  | inr r7 ↦ elim (or_cases _ _ r7) [
                    | inl x ↦ inr (same_at 1 straight_binary_places s t i (omega arith) refl (sym (by_sum straight_binary_places s) ∙ sym a.sbs ∙ b.sbs ∙ by_sum straight_binary_places t) x)
                    | inr x ↦ inr (ap is_one (spare_there s i u x ∙ sym (spare_there t i v x)))
                  ]
                ]
              ]
            ]
          ]
        ]
      ]
    ]

same_symbol : (i : ℕ) (x y : Symbol) → IsRight i (Some x) → IsRight i (Some y) → (is_marker_place i ≡ true) ⊎ (is_one (Some x) ≡ is_one (Some y)) → x ≡ y
same_symbol i Zero Zero a b h = refl
same_symbol i One One a b h = refl
same_symbol i Marker Marker a b h = refl
same_symbol i Bad y a b h = absurd a
same_symbol i Zero Bad a b h = absurd b
same_symbol i One Bad a b h = absurd b
same_symbol i Marker Bad a b h = absurd b
same_symbol i Zero Marker a b h = absurd (both_ways _ a b)
same_symbol i One Marker a b h = absurd (both_ways _ a b)
same_symbol i Marker Zero a b h = absurd (both_ways _ b a)
same_symbol i Marker One a b h = absurd (both_ways _ b a)
same_symbol i Zero One a b h = elim h [ inl m ↦ absurd (both_ways _ a m) | inr e ↦ absurd cc ]
same_symbol i One Zero a b h = elim h [ inl m ↦ absurd (both_ways _ a m) | inr e ↦ absurd cc ]

-- a frame is what it reads as, with zeros where no field is
pub one_frame : (s t : List Symbol) (c : Coded) → Reads s c → Reads t c → All (λ i. slice_get s i ≡ Some Zero) spare_places → All (λ i. slice_get t i ≡ Some Zero) spare_places → s ≡ t
one_frame s t c a b u v =
    same_lists s t (a.len ∙ sym b.len) (λ k d lt.
    let low : k < 100 = omega (arith, a.len) in
    let es = slice_get-get_or s k d lt in
    let et = slice_get-get_or t k d (omega (arith, b.len)) in
    let right_s = subst (λ (o : Option Symbol). IsRight k o) es (a.elements k low) in
    let right_t = subst (λ (o : Option Symbol). IsRight k o) et (b.elements k low) in
    let same : (is_marker_place k ≡ true) ⊎ (is_one (Some (get_or s k d)) ≡ is_one (Some (get_or t k d))) =
    subst (λ (o : Option Symbol). (is_marker_place k ≡ true) ⊎ (is_one (Some (get_or s k d)) ≡ is_one o)) et
    (subst (λ (o : Option Symbol). (is_marker_place k ≡ true) ⊎ (is_one o ≡ is_one (slice_get t k))) es (same_place s t c k a b u v low)) in
    same_symbol k (get_or s k d) (get_or t k d) right_s right_t same)
