-- Of more than f lines one is true, and what agrees is a candidate.
use Rattle.std.specs.Prelude.{count_by, slice_get, nat_le}
use Rattle.std.specs.List.{range_with_len}
use Rattle.std.proofs.Common.{◌≡◌, ℕ, zero, suc, ◌+◌, ◌<◌, ◌≤◌, Bool, true, false, cond, List, [], ◌∷◌, length, Option, Some, None, refl, sym, ◌∙◌, subst, arith, inl, inr}
use Rattle.std.proofs.lemmas.Bool.{cases_Bool}
use Rattle.std.proofs.lemmas.List.Sums.{sum_by-cons}
use Rattle.irig_sync.specs.Sync.{clock_gap}
use Rattle.irig_lines.specs.declared.lines.KeptClaim.{KeptClaim}
use Rattle.irig_lines.specs.declared.lines.Lines.{Lines}
use Rattle.irig_lines.specs.declared.setup.ClockRules.{ClockRules}
use Rattle.irig_lines.specs.Steps.{line_at, claim_kept, all_kept, last_us, is_candidate, earlier, first_candidate}

-- ---- among five lines one is true, and such

-- the i-th of them keeps this frame, which is such, and is not untrue
pub record IsAgreed (untrue : ℕ → Bool) (is_such : Option KeptClaim → Bool) (from : ℕ) (xs : List (Option KeptClaim)) : Type 0 where
  pub i : ℕ
  pub low : i < length xs
  pub y : KeptClaim
  pub keeps : slice_get xs i ≡ Some (Some y)
  pub true_line : untrue (from + i) ≡ false
  pub same : is_such (Some y) ≡ true

pub one_of : (b : Bool) → b ≡ true → ◌≡◌ {A = ℕ} (cond b 1 0) 1
one_of b e = rw e refl

pub none_of : (b : Bool) → b ≡ false → ◌≡◌ {A = ℕ} (cond b 1 0) 0
none_of b e = rw e refl

pub at_most_one : (b : Bool) → cond b 1 0 ≤ 1
at_most_one true = omega arith
at_most_one false = omega arith

module _ (untrue : ℕ → Bool) (is_such : Option KeptClaim → Bool) (none : is_such None ≡ false) where
  one_on : (from : ℕ) (o : Option KeptClaim) (xs : List (Option KeptClaim)) → IsAgreed untrue is_such (from + 1) xs → IsAgreed untrue is_such from (o ∷ xs)
  one_on from o xs found =
      let at : from + 1 + found.i ≡ from + suc found.i = omega arith in
      record {
        i = suc found.i;
        low = omega (arith, found.low);
        y = found.y;
        keeps = found.keeps;
        true_line = subst (λ (j : ℕ). untrue j ≡ false) at found.true_line;
        same = found.same;
      }

  here : (from : ℕ) (o : Option KeptClaim) (xs : List (Option KeptClaim)) → untrue from ≡ false → is_such o ≡ true → IsAgreed untrue is_such from (o ∷ xs)
  here from None xs right same = absurd (let both : false ≡ true = sym none ∙ same in cc)
  here from (Some y) xs right same =
      let at : from ≡ from + 0 = omega arith in
      record { i = 0; low = omega arith; y = y; keeps = refl; true_line = subst (λ (j : ℕ). untrue j ≡ false) at right; same = same }

  pub one_agrees : (from : ℕ) (xs : List (Option KeptClaim)) → count_by untrue (range_with_len from (length xs)) < count_by is_such xs → IsAgreed untrue is_such from xs
  one_agrees from [] more = absurd (omega (arith, more))
  one_agrees from (o ∷ xs) more =
      let left = sum_by-cons (λ k. cond (untrue k) 1 0) from (range_with_len (from + 1) (length xs)) in
      let votes = sum_by-cons (λ k. cond (is_such k) 1 0) o xs in
      elim (cases_Bool (untrue from)) [
        | inl lies ↦ one_on from o xs (one_agrees (from + 1) xs (omega (arith, more, left, votes, one_of (untrue from) lies, at_most_one (is_such o))))
        | inr right ↦ elim (cases_Bool (is_such o)) [
          | inl same ↦ here from o xs right same
          | inr other ↦ one_on from o xs (one_agrees (from + 1) xs (omega (arith, more, left, votes, none_of (untrue from) right, none_of (is_such o) other)))
        ]
      ]

-- the i-th of the five
pub kept_at : (c : ClockRules) (lines : Lines) (i : ℕ) (y : KeptClaim) → slice_get (all_kept c lines) i ≡ Some (Some y) → claim_kept c (line_at lines i).frame ≡ Some y
kept_at c lines zero y e = cc
kept_at c lines (suc zero) y e = cc
kept_at c lines (suc (suc zero)) y e = cc
kept_at c lines (suc (suc (suc zero))) y e = cc
kept_at c lines (suc (suc (suc (suc zero)))) y e = cc
kept_at c lines (suc (suc (suc (suc (suc i))))) y e = absurd cc

-- ---- what is agreed is a candidate, and one of them

module _ (Such : KeptClaim → Type 0) where
  -- a fact of each that is kept
  abbrev pub EachKept : List (Option KeptClaim) → Type 0
  EachKept [] = Unit {0}
  EachKept (None ∷ xs) = EachKept xs
  EachKept (Some x ∷ xs) = Such x × EachKept xs

  -- of two kinds, one of which is the other where that is so, one has as many
  pub as_many : (one other : Option KeptClaim → Bool) → one None ≡ false → ((y : KeptClaim) → Such y → one (Some y) ≡ true → other (Some y) ≡ true) → (xs : List (Option KeptClaim)) → EachKept xs → count_by one xs ≤ count_by other xs
  as_many one other none so [] each = omega arith
  as_many one other none so (None ∷ xs) each =
      let left = sum_by-cons (λ k. cond (one k) 1 0) None xs in
      let right = sum_by-cons (λ k. cond (other k) 1 0) None xs in
      omega (arith, left, right, as_many one other none so xs each, none_of (one None) none)
  as_many one other none so (Some y ∷ xs) each =
      let left = sum_by-cons (λ k. cond (one k) 1 0) (Some y) xs in
      let right = sum_by-cons (λ k. cond (other k) 1 0) (Some y) xs in
      let rest = as_many one other none so xs each.1 in
      elim (cases_Bool (one (Some y))) [
        | inl is ↦ omega (arith, left, right, rest, one_of (one (Some y)) is, one_of (other (Some y)) (so y each.0 is))
        | inr not ↦ omega (arith, left, right, rest, none_of (one (Some y)) not)
      ]

  module _ (reach f : ℕ) (all : List (Option KeptClaim)) where
    IsOne : Option KeptClaim → Type 0
    IsOne so_far = (x : KeptClaim) → so_far ≡ Some x → (is_candidate f x all ≡ true) × Such x

    either_one : (b : Bool) (x y : Option KeptClaim) → (b ≡ true → IsOne x) → (b ≡ false → IsOne y) → IsOne (cond b x y)
    either_one true x y p q = p refl
    either_one false x y p q = q refl

    just : (x : KeptClaim) → is_candidate f x all ≡ true → Such x → IsOne (Some x)
    unfolding IsOne
    just x is such z e =
        let same : x ≡ z = cc in
        (subst (λ (v : KeptClaim). is_candidate f v all ≡ true) same is, subst Such same such)

    earlier_one : (so_far : Option KeptClaim) (x : KeptClaim) → IsOne so_far → is_candidate f x all ≡ true → Such x → IsOne (earlier reach so_far x)
    earlier_one None x v is such = just x is such
    earlier_one (Some y) x v is such = either_one (nat_le (clock_gap (last_us y) (last_us x)) reach) (Some y) (Some x) (λ _. v) (λ _. just x is such)

    first_one : (xs : List (Option KeptClaim)) (so_far : Option KeptClaim) → EachKept xs → IsOne so_far → IsOne (first_candidate reach f all xs so_far)
    first_one [] so_far each v = v
    first_one (None ∷ xs) so_far each v = first_one xs so_far each v
    first_one (Some x ∷ xs) so_far each v = first_one xs _ each.1 (either_one (is_candidate f x all) (earlier reach so_far x) so_far (λ is. earlier_one so_far x v is each.0) (λ _. v))

    nothing_yet : IsOne None
    unfolding IsOne
    nothing_yet x e = absurd cc

    pub is_one : (xs : List (Option KeptClaim)) (x : KeptClaim) → EachKept xs → first_candidate reach f all xs None ≡ Some x → (is_candidate f x all ≡ true) × Such x
    unfolding IsOne
    is_one xs x each e = first_one xs None each nothing_yet x e
