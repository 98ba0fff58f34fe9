-- A language that has another within it, by a map of scenes: what lines mean whose first line begins the
-- same in both.
use Rattle.std.proofs.Common.{◌≡◌, ℕ, ◌+◌, Bool, true, false, cond, List, [], ◌∷◌, length, Option, Some, None, Result, Ok, Err, refl, ap, sym, subst, ◌∙◌, nat_lt}
use Rattle.std.specs.Option.{option_map}
use Rattle.text_faults.specs.declared.refusal.Refusal.{Refusal}
use Rattle.text_faults.specs.declared.refusal.Refusal.TheVariants.{TooLong, TooManyLines}
use Rattle.report_run.specs.Lines.{lines, is_blank, max_line, max_lines}
use Rattle.report_run.specs.Meanings.{Language, Step, step_to, step_of_first, step_of_next, step_of_line, step, Meaning, unless_stopped, meaning_from, meaning_of, meaning_at_end, AreTaken}
use Rattle.report_run.specs.Sides.{given_as, next_as, meaning_as}
use Rattle.report_run.proofs.FirstLaws.{BeginBy, full_first, blank_first, still_none}

-- b does with the scenes f x what a does with x, after first lines of which P holds
pub record IsWithin {S T : Type 0} (f : S → T) (P : List ℕ → Type 0) (a : Language S) (b : Language T) : Type 0 where
  pub begins : (line : List ℕ) → P line → b.begin line ≡ given_as f (a.begin line)
  pub goes_on : (x : S) (line : List ℕ) → b.next (f x) line ≡ next_as f (a.next x line)

-- a step, with another value in place of the scene
abbrev pub step_as : {S T : Type 0} → (S → T) → Step S → Step T
step_as f s = step_to (option_map f s.scene) s.refusal

module _ {S T : Type 0} (f : S → T) where
  first_as : (r : Result S Refusal) → step_of_first (given_as f r) ≡ step_as f (step_of_first r)
  first_as (Ok x) = refl
  first_as (Err k) = refl

  end_as : (n : ℕ) (at : Option S) → meaning_at_end n (option_map f at) ≡ meaning_as f (meaning_at_end n at)
  end_as n None = refl
  end_as n (Some x) = refl

  unless_as : (n : ℕ) (at : Option S) (k : Option Refusal) (l : Meaning T) (m : Meaning S) → (k ≡ None → l ≡ meaning_as f m) → unless_stopped n (option_map f at) k l ≡ meaning_as f (unless_stopped n at k m)
  unless_as n at None l m h = h refl
  unless_as n at (Some k) l m h = refl

  step_if : (at : Option S) (many long blank : Bool) (s : Step T) (r : Step S) → (blank ≡ false → s ≡ step_as f r)
      → cond many (step_to (option_map f at) (Some TooManyLines)) (cond long (step_to (option_map f at) (Some TooLong)) (cond blank (step_to (option_map f at) None) s))
      ≡ step_as f (cond many (step_to at (Some TooManyLines)) (cond long (step_to at (Some TooLong)) (cond blank (step_to at None) r)))
  step_if at true long blank s r h = refl
  step_if at false true blank s r h = refl
  step_if at false false true s r h = refl
  step_if at false false false s r h = h refl

module _ {S T : Type 0} (f : S → T) (P : List ℕ → Type 0) (a : Language S) (b : Language T) (within : IsWithin f P a b) where
  line_within : (at : Option S) (line : List ℕ) → (at ≡ None → P line) → step_of_line b (option_map f at) line ≡ step_as f (step_of_line a at line)
  line_within None line h = ap step_of_first (within.begins line (h refl)) ∙ first_as f (a.begin line)
  line_within (Some x) line h = ap step_of_next (within.goes_on x line)

  step_within : (n : ℕ) (at : Option S) (line : List ℕ) → (is_blank line ≡ false → at ≡ None → P line) → step b n (option_map f at) line ≡ step_as f (step a n at line)
  unfolding step
  step_within n at line h =
      step_if f at (nat_lt max_lines n) (nat_lt max_line (length line)) (is_blank line) (step_of_line b (option_map f at) line) (step_of_line a at line)
      (λ full. line_within at line (h full))

  -- the first line of those that are left
  begins_left : (n : ℕ) (at : Option S) (l : List ℕ) (ls : List (List ℕ)) → (at ≡ None → BeginBy P (l ∷ ls)) → (step a n at l).refusal ≡ None → (step a n at l).scene ≡ None → BeginBy P ls
  begins_left n at l ls h taken none line is =
      let still = still_none a n at l taken none in
      h still.before line (blank_first l ls still.blank ∙ is)

  pub means_within : (ls : List (List ℕ)) (n : ℕ) (at : Option S) → (at ≡ None → BeginBy P ls) → meaning_from b ls n (option_map f at) ≡ meaning_as f (meaning_from a ls n at)
  unfolding meaning_from
  means_within [] n at h = end_as f n at
  means_within (l ∷ ls) n at h =
      let here = step_within n at l (λ full none. h none l (full_first l ls full)) in
      let is = step a n at l in
      ap (λ (s : Step T). unless_stopped n s.scene s.refusal (meaning_from b ls (n + 1) s.scene)) here
      ∙ unless_as f n is.scene is.refusal (meaning_from b ls (n + 1) (option_map f is.scene)) (meaning_from a ls (n + 1) is.scene)
      (λ taken. means_within ls (n + 1) is.scene (begins_left n at l ls h taken))

  pub takes_within : (ls : List (List ℕ)) (n : ℕ) (at : Option S) → (at ≡ None → BeginBy P ls) → AreTaken b ls n (option_map f at) → AreTaken a ls n at
  takes_within [] n at h taken = tt
  takes_within (l ∷ ls) n at h taken =
      let here = step_within n at l (λ full none. h none l (full_first l ls full)) in
      let is = step a n at l in
      let first : is.refusal ≡ None = sym (ap (λ (s : Step T). s.refusal) here) ∙ taken.0 in
      (first, takes_within ls (n + 1) is.scene (begins_left n at l ls h first) (subst (λ (s : Step T). AreTaken b ls (n + 1) s.scene) here taken.1))

  -- bytes mean the same
  pub meaning_within : (x : List ℕ) → BeginBy P (lines x) → meaning_of b x ≡ meaning_as f (meaning_of a x)
  meaning_within x h = means_within (lines x) 1 None (λ none. h)
