-- What element 75 adds to the ones that the parity counts.
use Rattle.std.proofs.Common.{◌≡◌, ℕ, zero, suc, ◌+◌, ◌%◌, ◌<◌, ◌≤◌, Bool, true, false, not, ◌&&◌, cond, List, [], ◌∷◌, length, slice_set, refl, ap, ◌∙◌, arith, sum_by}
use Rattle.std.specs.List.{range_with_len}
use Rattle.std.proofs.lemmas.Bool.{eqb-true, eqb-false, eq-eqb}
use Rattle.std.proofs.lemmas.List.Sums.{sum_by-cons, sum_by-append}
use Rattle.irig_frame.specs.declared.symbol.Symbol.{Symbol}
use Rattle.irig_frame.specs.declared.symbol.Symbol.TheVariants.{Zero, One}
use Rattle.irig_frame.specs.FieldTable.{is_marker_place}
use Rattle.irig_frame.specs.Values.{is_one}
use Rattle.irig_frame.proofs.WritingLaws.{get-set_same, get-set_other}
use Rattle.irig_control.specs.declared.parity.Parity.{Parity}
use Rattle.irig_control.specs.declared.parity.Parity.TheVariants.{Even, Odd}
use Rattle.irig_control.specs.Control.{flag}
use Rattle.irig_control.specs.Parity.{is_counted, ones, remainder_of, has_parity, HasParity, data_symbol, with_parity}

-- ---- the ones

abbrev number : (ℕ → Bool) → ℕ → ℕ
number p i = cond (p i) 1 0

agree : (p q : ℕ → Bool) (a n b : ℕ) → a + n ≤ b → ((i : ℕ) → i < b → p i ≡ q i) → sum_by (number p) (range_with_len a n) ≡ sum_by (number q) (range_with_len a n)
agree p q a zero b h same = refl
agree p q a (suc n) b h same =
    let here : number p a ≡ number q a = ap (λ (x : Bool). cond x 1 0) (same a (omega arith)) in
    let rest = agree p q (a + 1) n b (omega arith) same in
    rw (sum_by-cons (number p) a (range_with_len (a + 1) n), sum_by-cons (number q) a (range_with_len (a + 1) n), here, rest) refl

-- the ones before element 75
abbrev before : List Symbol → ℕ
before s = sum_by (number (is_counted s)) (range_with_len 1 74)

ones-last : (s : List Symbol) → ones s ≡ before s + number (is_counted s) 75
unfolding ones
ones-last s = sum_by-append (number (is_counted s)) (range_with_len 1 74) (75 ∷ []) ∙ omega arith

before-set : (s : List Symbol) (x : Symbol) → before (slice_set s 75 x) ≡ before s
before-set s x =
    agree (is_counted (slice_set s 75 x)) (is_counted s) 1 74 75 (omega arith)
    (λ i lt. ap (λ o. not (is_marker_place i) && is_one o) (get-set_other s 75 i x (λ e. omega (arith, e))))

-- ---- the parity

ones-set : (s : List Symbol) (b : Bool) → 75 < length s → ones (slice_set s 75 (data_symbol b)) ≡ before s + flag b
ones-set s true h =
    let own : number (is_counted (slice_set s 75 One)) 75 ≡ 1 = ap (λ o. cond (is_one o) 1 0) (get-set_same s 75 One h) in
    omega (arith, ones-last (slice_set s 75 One), before-set s One, own)
ones-set s false h =
    let own : number (is_counted (slice_set s 75 Zero)) 75 ≡ 0 = ap (λ o. cond (is_one o) 1 0) (get-set_same s 75 Zero h) in
    omega (arith, ones-last (slice_set s 75 Zero), before-set s Zero, own)

remainder_below : (p : Parity) → remainder_of p < 2
remainder_below Even = omega arith
remainder_below Odd = omega arith

-- if a 0 gives the wrong parity, a 1 gives the right one
pub other_parity : (p : Parity) (s : List Symbol) → 75 < length s → has_parity p (slice_set s 75 Zero) ≡ false → HasParity p (slice_set s 75 One)
other_parity p s h wrong =
    let with_zero = ones-set s false h in
    let with_one = ones-set s true h in
    let below = remainder_below p in
    let apart = eqb-false (ones (slice_set s 75 Zero) % 2) (remainder_of p) wrong in
    eq-eqb (ones (slice_set s 75 One) % 2) (remainder_of p) (omega arith)

-- the frame with a parity has it
pub parity_given : (p : Parity) (s : List Symbol) → 75 < length s → HasParity p (with_parity p s)
parity_given p s h = by_test (has_parity p (slice_set s 75 Zero)) refl
  where
    by_test : (b : Bool) → has_parity p (slice_set s 75 Zero) ≡ b → HasParity p (slice_set s 75 (data_symbol (not b)))
    by_test true e = e
    by_test false e = other_parity p s h e

pub with_parity_other : (p : Parity) (s : List Symbol) → (b : Bool) × (with_parity p s ≡ slice_set s 75 (data_symbol b))
with_parity_other p s = (not (has_parity p (slice_set s 75 Zero)), refl)

-- of two frames that differ in element 75 alone one has the parity
pub parity_decides : (p : Parity) (s : List Symbol) (x y : Bool) → 75 < length s → HasParity p (slice_set s 75 (data_symbol x)) → HasParity p (slice_set s 75 (data_symbol y)) → x ≡ y
parity_decides p s x y h a b =
    same_flag x y (omega (arith, flags x y, ones-set s x h, ones-set s y h, eqb-true _ _ a, eqb-true _ _ b))
  where
    flags : (x y : Bool) → (flag x ≤ 1) × (flag y ≤ 1)
    flags true true = (omega arith, omega arith)
    flags true false = (omega arith, omega arith)
    flags false true = (omega arith, omega arith)
    flags false false = (omega arith, omega arith)

    same_flag : (x y : Bool) → flag x ≡ flag y → x ≡ y
    same_flag true true e = refl
    same_flag false false e = refl
    same_flag true false e = absurd (omega arith)
    same_flag false true e = absurd (omega arith)
