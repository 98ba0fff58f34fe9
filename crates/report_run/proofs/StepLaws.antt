-- What one line does, and what the lines after it can't undo.
use Rattle.std.proofs.Common.{◌≡◌, ℕ, ◌+◌, ◌<◌, ◌≤◌, true, false, List, [], ◌∷◌, length, Option, Some, None, refl, ap, rules, nat_lt}
use Rattle.text_faults.specs.declared.refusal.Refusal.{Refusal}
use Rattle.text_faults.specs.declared.refusal.Refusal.TheVariants.{TooManyLines, TooLong}
use Rattle.report_run.specs.Lines.{is_blank, max_line, max_lines}
use Rattle.report_run.specs.Meanings.{Language, step_to, step_of_line, step, meaning, refusal_at, meaning_at_end, unless_stopped, meaning_from}

module _ {S : Type 0} (lang : Language S) where
  -- ---- one line

  pub step_many : (n : ℕ) (at : Option S) (line : List ℕ) → max_lines < n → step lang n at line ≡ step_to at (Some TooManyLines)
  unfolding step
  step_many n at line many = let test : nat_lt max_lines n ≡ true = search rules in rw test refl

  pub step_long : (n : ℕ) (at : Option S) (line : List ℕ) → n ≤ max_lines → max_line < length line → step lang n at line ≡ step_to at (Some TooLong)
  unfolding step
  step_long n at line few long =
      let test : nat_lt max_lines n ≡ false = search rules in
      let size : nat_lt max_line (length line) ≡ true = search rules in
      rw (test, size) refl

  pub step_blank : (n : ℕ) (at : Option S) (line : List ℕ) → n ≤ max_lines → length line ≤ max_line → is_blank line ≡ true → step lang n at line ≡ step_to at None
  unfolding step
  step_blank n at line few short blank =
      let test : nat_lt max_lines n ≡ false = search rules in
      let size : nat_lt max_line (length line) ≡ false = search rules in
      rw (test, size, blank) refl

  pub step_taken : (n : ℕ) (at : Option S) (line : List ℕ) → n ≤ max_lines → length line ≤ max_line → is_blank line ≡ false → step lang n at line ≡ step_of_line lang at line
  unfolding step
  step_taken n at line few short blank =
      let test : nat_lt max_lines n ≡ false = search rules in
      let size : nat_lt max_line (length line) ≡ false = search rules in
      rw (test, size, blank) refl

  -- ---- lines that are left

  pub meaning_goes : (l : List ℕ) (ls : List (List ℕ)) (n : ℕ) (at : Option S) → (step lang n at l).refusal ≡ None
      → meaning_from lang (l ∷ ls) n at ≡ meaning_from lang ls (n + 1) (step lang n at l).scene
  unfolding meaning_from
  meaning_goes l ls n at h = ap (λ k. unless_stopped n (step lang n at l).scene k (meaning_from lang ls (n + 1) (step lang n at l).scene)) h

  pub meaning_stops : (l : List ℕ) (ls : List (List ℕ)) (n : ℕ) (at : Option S) (k : Refusal) → (step lang n at l).refusal ≡ Some k
      → meaning_from lang (l ∷ ls) n at ≡ meaning (step lang n at l).scene (Some (refusal_at n k))
  unfolding meaning_from
  meaning_stops l ls n at k h = ap (λ k. unless_stopped n (step lang n at l).scene k (meaning_from lang ls (n + 1) (step lang n at l).scene)) h

  pub meaning_ends : (n : ℕ) (at : Option S) → meaning_from lang [] n at ≡ meaning_at_end n at
  unfolding meaning_from
  meaning_ends n at = refl
