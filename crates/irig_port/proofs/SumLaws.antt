-- What one more symbol adds to the numbers of a port.
use Rattle.std.proofs.Common.{◌≡◌, ℕ, zero, suc, ◌+◌, Bool, true, false, not, ◌&&◌, cond, eqb, List, [], ◌∷◌, ◌++◌, length, Option, Some, None, slice_get, refl, sym, zero-add, add-zero, map, ap, ◌∙◌, arith, count_by}
use Rattle.std.specs.Option.{option_or}
use Rattle.std.specs.List.{range_with_len}
use Rattle.std.proofs.Math.Dec.{eqb-suc-zero, eqb-zero-suc, eqb-suc-suc}
use Rattle.std.proofs.lemmas.List.Sums.{sum_by-cons}
use Rattle.irig_frame.specs.declared.symbol.Symbol.{Symbol}
use Rattle.irig_frame.specs.declared.fault.FrameFault.{FrameFault}
use Rattle.irig_frame.specs.FieldTable.{TableEntry, at, is_marker_place}
use Rattle.irig_frame.specs.Values.{is_one}
use Rattle.irig_frame.specs.Faults.{element_fault, first_wrong}
use Rattle.irig_frame.proofs.WritingLaws.{ones as held}
use Rattle.irig_control.specs.Parity.{ones, is_counted}

-- ---- the places that the parity counts

-- an element with what a one there adds to the ones that the parity counts
abbrev pub parity_place : ℕ → TableEntry
parity_place i = at i (cond (not (is_marker_place i)) 1 0)

-- the elements 1 to 75
unfoldable pub parity_places : List TableEntry
parity_places = map parity_place (range_with_len 1 75)

-- what a one at the element adds to the sum over the places
abbrev pub weight_at : List TableEntry → ℕ → ℕ
weight_at [] i = 0
weight_at (p ∷ ps) i = cond (eqb p.element i) p.weight 0 + weight_at ps i

-- ---- one more symbol

pub cond-same : (b : Bool) → ◌≡◌ {A = ℕ} (cond b 0 0) 0
cond-same true = refl
cond-same false = refl

-- a place of the list with one more symbol
pub place-push : (s : List Symbol) (x : Symbol) (i w : ℕ)
    → cond (is_one (slice_get (s ++ x ∷ []) i)) w 0 ≡ cond (is_one (slice_get s i)) w 0 + cond (is_one (Some x)) (cond (eqb i (length s)) w 0) 0
place-push [] x zero w = sym (zero-add (cond (is_one (Some x)) w 0))
place-push [] x (suc i) w = rw (eqb-suc-zero i, cond-same (is_one (Some x))) refl
place-push (y ∷ s) x zero w = rw (eqb-zero-suc (length s), cond-same (is_one (Some x))) (sym (add-zero (cond (is_one (Some y)) w 0)))
place-push (y ∷ s) x (suc i) w = rw (eqb-suc-suc i (length s)) (place-push s x i w)

pub cond-add : (b : Bool) (a c : ℕ) → cond b (a + c) 0 ≡ cond b a 0 + cond b c 0
cond-add true a c = refl
cond-add false a c = refl

-- ---- the lowest wrong element

pub first_wrong-push : (i : ℕ) (s : List Symbol) (x : Symbol) → first_wrong i (s ++ x ∷ []) ≡ option_or (first_wrong i s) (element_fault (i + length s) x)
first_wrong-push i [] x = after-none (element_fault i x) (element_fault (i + 0) x) (ap (λ k. element_fault k x) (sym (add-zero i)))
  where
    after-none : (a b : Option FrameFault) → a ≡ b → option_or a None ≡ b
    after-none None b e = e
    after-none (Some f) b e = e
first_wrong-push i (y ∷ s) x =
    let there : i + 1 + length s ≡ i + length (y ∷ s) = omega arith in
    let rest : first_wrong (i + 1) (s ++ x ∷ []) ≡ option_or (first_wrong (i + 1) s) (element_fault (i + length (y ∷ s)) x) = first_wrong-push (i + 1) s x ∙ ap (λ k. option_or (first_wrong (i + 1) s) (element_fault k x)) there in
    ap (λ o. option_or (element_fault i y) o) rest ∙ first-first (element_fault i y) (first_wrong (i + 1) s) (element_fault (i + length (y ∷ s)) x)
  where
    first-first : (a b d : Option FrameFault) → option_or a (option_or b d) ≡ option_or (option_or a b) d
    first-first None b d = refl
    first-first (Some f) b d = refl

-- ---- parity

counted-weight : (m b : Bool) → ◌≡◌ {A = ℕ} (cond (not m && b) 1 0) (cond b (cond (not m) 1 0) 0)
counted-weight true true = refl
counted-weight true false = refl
counted-weight false true = refl
counted-weight false false = refl

counted-held : (is : List ℕ) (s : List Symbol) → count_by (is_counted s) is ≡ held (map parity_place is) s
counted-held [] s = refl
counted-held (i ∷ is) s =
    let own = counted-weight (is_marker_place i) (is_one (slice_get s i)) in
    let first = sum_by-cons (λ k. cond (is_counted s k) 1 0) i is in
    let rest = counted-held is s in
    omega (arith, own, first, rest)

pub ones-held : (s : List Symbol) → ones s ≡ held parity_places s
unfolding ones parity_places
ones-held s = counted-held (range_with_len 1 75) s
