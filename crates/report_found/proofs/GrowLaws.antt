-- Lists that grow by one piece after another.
use Rattle.std.proofs.Common.{◌≡◌, ℕ, zero, suc, ◌+◌, ◌<◌, List, ◌++◌, refl, sym, ap, ◌∙◌, append_assoc, arith}
use Rattle.report_found.specs.Findings.{lists_below}

module _ {A : Type 0} where
  lists_more : (f : ℕ → List A) (n : ℕ) → lists_below f (n + 1) ≡ lists_below f n ++ f n
  lists_more f n = let next : n + 1 ≡ suc n = omega arith in ap (lists_below f) next

  pub list_more : (f : ℕ → List A) (n : ℕ) (b0 b1 b2 piece : List A) → b1 ≡ b0 ++ lists_below f n → b2 ≡ b1 ++ piece → piece ≡ f n → b2 ≡ b0 ++ lists_below f (n + 1)
  list_more f n b0 b1 b2 piece was grew is =
      grew ∙ ap (λ b. b ++ piece) was ∙ append_assoc b0 (lists_below f n) piece ∙ ap (λ p. b0 ++ (lists_below f n ++ p)) is ∙ ap (λ t. b0 ++ t) (sym (lists_more f n))

  pub list_then : (b0 b1 b2 a c : List A) → b1 ≡ b0 ++ a → b2 ≡ b1 ++ c → b2 ≡ b0 ++ (a ++ c)
  list_then b0 b1 b2 a c h k = k ∙ ap (λ b. b ++ c) h ∙ append_assoc b0 a c

  pub lists_alike : (f g : ℕ → List A) (n : ℕ) → ((k : ℕ) → k < n → f k ≡ g k) → lists_below f n ≡ lists_below g n
  lists_alike f g zero h = refl
  lists_alike f g (suc n) h =
      ap (λ t. t ++ f n) (lists_alike f g n (λ k lt. h k (omega (arith, lt)))) ∙ ap (λ t. lists_below g n ++ t) (h n (omega arith))
