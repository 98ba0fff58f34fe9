-- Facts of each element of a list, by its place.
use Rattle.std.proofs.Common.{drop, zero, suc, ◌≡◌, ◌≢◌, ℕ, ◌+◌, ◌<◌, ◌≤◌, false, List, [], ◌∷◌, ◌++◌, length, get_or, set, refl, sym, subst, inl, inr, arith, eqb, get_or-set_other, get_or-set_same}
use Rattle.std.proofs.lemmas.Bool.{cases_eq}
use Rattle.std.proofs.lemmas.Bool.Decides.{eqb_tells}
use Rattle.std.proofs.lemmas.List.{get_or_push, get_or_append_left}

pub apart : (a b : ℕ) → a ≢ b → eqb a b ≡ false
apart a b h = elim (eqb_tells a b) [ inl p ↦ absurd (h p.1) | inr p ↦ p.0 ]

-- after a write at i
pub each_set : {X : Type 0} (R S : ℕ → X → Type 0) (n : ℕ) (xs : List X) (i : ℕ) (y : X) → i < length xs → ((r : ℕ) (d : X) → r < n → R r (get_or xs r d)) → ((r : ℕ) (x : X) → r ≢ i → R r x → S r x) → S i y → (r : ℕ) (d : X) → r < n → S r (get_or (set xs i y) r d)
each_set R S n xs i y l h other here r d lt =
    elim (cases_eq r i) [
      | inl p ↦ subst (λ k. S k (get_or (set xs i y) k d)) (sym p) (subst (λ v. S i v) (sym (get_or-set_same xs i y d l)) here)
      | inr q ↦ subst (λ v. S r v) (sym (get_or-set_other xs i r y d q)) (other r (get_or xs r d) q (h r d lt))
    ]

-- after a push
pub each_push : {X : Type 0} (R : ℕ → X → Type 0) (n : ℕ) (xs : List X) (y : X) → length xs ≡ n → ((r : ℕ) (d : X) → r < n → R r (get_or xs r d)) → R n y → (r : ℕ) (d : X) → r < n + 1 → R r (get_or (xs ++ y ∷ []) r d)
each_push R n xs y l h here r d lt =
    elim (cases_eq r n) [
      | inl p ↦ subst (λ k. R k (get_or (xs ++ y ∷ []) k d)) (sym p) (subst (λ v. R n v) (sym (get_or_push xs y d n l)) here)
      | inr q ↦
          let k : r < n = omega (arith, q) in
          subst (λ v. R r v) (sym (get_or_append_left xs (y ∷ []) d r (omega (arith, l, k)))) (h r d k)
    ]

pub drop-push : {X : Type 0} (k : ℕ) (xs : List X) (y : X) → k ≤ length xs → drop k (xs ++ y ∷ []) ≡ drop k xs ++ y ∷ []
drop-push zero xs y h = refl
drop-push (suc k) [] y h = absurd (omega arith)
drop-push (suc k) (x ∷ xs) y h = drop-push k xs y (omega arith)
