-- Timekeepers that are alike but for one number have different check words.
use Rattle.std.proofs.Common.{◌≡◌, ◌⊎◌, ◌∙◌, ◌+◌, ◌%◌, ℕ, List, [], ◌∷◌, ◌++◌, length, take, drop, refl, sym, ap, arith, inl, inr}
use Rattle.std.proofs.Math.Seq.{drop-append_seam, take-append_seam}
use Rattle.c_numbers.specs.CheckWord.{weighted, AreOneApart}
use Rattle.c_numbers.proofs.ApartLaws.{apart_lists}
use Rattle.c_keeper.specs.declared.timekeeper.IrigTimekeeper.{IrigTimekeeper}
use Rattle.c_keeper.specs.CheckWord.{changing_numbers, check_of, fixed_numbers, IsOneNumberApart, IsSealed}

-- two lists that are one number apart, each in two parts: either first parts or second parts are
abbrev AreApartIn : List ℕ → List ℕ → List ℕ → List ℕ → Type 0
AreApartIn xs ys vs ws = (AreOneApart xs ys × (vs ≡ ws)) ⊎ ((xs ≡ ys) × AreOneApart vs ws)

-- of lists of one length
same_parts : (xs ys vs ws : List ℕ) → length xs ≡ length ys → xs ++ vs ≡ ys ++ ws → (xs ≡ ys) × (vs ≡ ws)
same_parts xs ys vs ws same e = (
  sym (take-append_seam xs vs) ∙ (ap (λ (l : List ℕ). take (length xs) l) e ∙ (ap (λ (n : ℕ). take n (ys ++ ws)) same ∙ take-append_seam ys ws)),
  sym (drop-append_seam xs vs) ∙ (ap (λ (l : List ℕ). drop (length xs) l) e ∙ (ap (λ (n : ℕ). drop n (ys ++ ws)) same ∙ drop-append_seam ys ws)),
)

split : (xs ys vs ws : List ℕ) → length xs ≡ length ys → AreOneApart (xs ++ vs) (ys ++ ws) → AreApartIn xs ys vs ws
split [] [] vs ws same h = inr (refl, h)
split [] (y ∷ ys) vs ws same h = absurd (omega (arith, same))
split (x ∷ xs) [] vs ws same h = absurd (omega (arith, same))
split (x ∷ xs) (y ∷ ys) vs ws same (inl h) =
    let parts = same_parts xs ys vs ws (omega (arith, same)) h.rest in
    inl (inl (record { one = h.one; other = h.other; differ = h.differ; rest = parts.0 }), parts.1)
split (x ∷ xs) (y ∷ ys) vs ws same (inr h) =
    elim (split xs ys vs ws (omega (arith, same)) h.1) [
      | inl first ↦ inl (inr (h.0, first.0), first.1)
      | inr second ↦ inr (cons_same x y xs ys h.0 second.0, second.1)
    ]
  where
    cons_same : (x y : ℕ) (xs ys : List ℕ) → x ≡ y → xs ≡ ys → x ∷ xs ≡ y ∷ ys
    cons_same x y xs ys e f = λ i. e i ∷ f i

pub apart_told : (t q : IrigTimekeeper) → IsSealed t → IsOneNumberApart t q → ¬ IsSealed q
unfolding check_of
apart_told t q sealed (inl h) other =
    let parts = same_parts (changing_numbers t) (changing_numbers q) (fixed_numbers t) (fixed_numbers q) refl h.rest in
    let fixed : weighted 3 (fixed_numbers t) ≡ weighted 3 (fixed_numbers q) = ap (λ (l : List ℕ). weighted 3 l) parts.1 in
    let changing : weighted 279 (changing_numbers t) ≡ weighted 279 (changing_numbers q) = ap (λ (l : List ℕ). weighted 279 l) parts.0 in
    h.differ (sealed ∙ (ap (λ (n : ℕ). (n + weighted 279 (changing_numbers t)) % 18446744073709551616) fixed
    ∙ (ap (λ (n : ℕ). (weighted 3 (fixed_numbers q) + n) % 18446744073709551616) changing ∙ sym other)))
apart_told t q sealed (inr h) other =
    let words : (weighted 3 (fixed_numbers t) + weighted 279 (changing_numbers t)) % 18446744073709551616
    ≡ (weighted 3 (fixed_numbers q) + weighted 279 (changing_numbers q)) % 18446744073709551616 = sym sealed ∙ (h.0 ∙ other) in
    elim (split (changing_numbers t) (changing_numbers q) (fixed_numbers t) (fixed_numbers q) refl h.1) [
      | inl first ↦
          let fixed : weighted 3 (fixed_numbers t) ≡ weighted 3 (fixed_numbers q) = ap (λ (l : List ℕ). weighted 3 l) first.1 in
          apart_lists 139 (changing_numbers t) (changing_numbers q) first.0 (left_out (weighted 3 (fixed_numbers t)) (weighted 3 (fixed_numbers q)) (weighted 279 (changing_numbers t)) (weighted 279 (changing_numbers q)) fixed words)
      | inr second ↦
          let changing : weighted 279 (changing_numbers t) ≡ weighted 279 (changing_numbers q) = ap (λ (l : List ℕ). weighted 279 l) second.0 in
          apart_lists 1 (fixed_numbers t) (fixed_numbers q) second.1 (left_out_second (weighted 3 (fixed_numbers t)) (weighted 3 (fixed_numbers q)) (weighted 279 (changing_numbers t)) (weighted 279 (changing_numbers q)) changing words)
    ]
  where
    left_out : (f g c d : ℕ) → f ≡ g → (f + c) % 18446744073709551616 ≡ (g + d) % 18446744073709551616 → c % 18446744073709551616 ≡ d % 18446744073709551616
    left_out f g c d same e = omega (arith, same, e)

    left_out_second : (f g c d : ℕ) → c ≡ d → (f + c) % 18446744073709551616 ≡ (g + d) % 18446744073709551616 → f % 18446744073709551616 ≡ g % 18446744073709551616
    left_out_second f g c d same e = omega (arith, same, e)
