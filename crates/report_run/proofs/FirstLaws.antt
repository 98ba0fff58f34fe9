-- The first line that is not blank, and what lines mean that have none.
use Rattle.std.proofs.Common.{◌≡◌, ℕ, ◌+◌, Bool, true, false, not, cond, List, [], ◌∷◌, ◌++◌, length, Option, Some, None, Result, Ok, Err, refl, ap, sym, ◌∙◌, nat_lt}
use Rattle.std.specs.List.{find}
use Rattle.text_faults.specs.declared.refusal.Refusal.{Refusal}
use Rattle.text_faults.specs.declared.refusal.Refusal.TheVariants.{TooLong, TooManyLines}
use Rattle.report_run.specs.Lines.{is_blank, max_line, max_lines}
use Rattle.report_run.specs.Meanings.{Language, Step, step_to, step_of_first, step_of_line, step, Meaning, unless_stopped, meaning_from}

-- the first line that is not blank, if there is one
abbrev pub first_full : List (List ℕ) → Option (List ℕ)
first_full ls = find (λ line. not (is_blank line)) ls

-- so is it, if there is one
abbrev pub BeginBy : (List ℕ → Type 0) → List (List ℕ) → Type 0
BeginBy P ls = (line : List ℕ) → first_full ls ≡ Some line → P line

pub full_first : (l : List ℕ) (ls : List (List ℕ)) → is_blank l ≡ false → first_full (l ∷ ls) ≡ Some l
full_first l ls h = rw h refl

pub blank_first : (l : List ℕ) (ls : List (List ℕ)) → is_blank l ≡ true → first_full (l ∷ ls) ≡ first_full ls
blank_first l ls h = rw h refl

-- lines behind it change nothing
pub first_in_front : (ls more : List (List ℕ)) (line : List ℕ) → first_full ls ≡ Some line → first_full (ls ++ more) ≡ Some line
first_in_front [] more line h = absurd cc
first_in_front (l ∷ ls) more line h = elim (is_blank l) as (λ b. cond (not b) (Some l) (first_full ls) ≡ Some line → cond (not b) (Some l) (first_full (ls ++ more)) ≡ Some line) [
  | false ↦ λ h. h
  | true ↦ λ h. first_in_front ls more line h
] h

module _ {S : Type 0} (lang : Language S) where
  -- a step from nowhere that is not refused and begins nothing is over a blank line
  begun_none : (r : Result S Refusal) → (step_of_first r).refusal ≡ None → (step_of_first r).scene ≡ None → ⊥
  begun_none (Ok x) taken none = absurd cc
  begun_none (Err k) taken none = absurd cc

  line_none : (at : Option S) (line : List ℕ) → (step_of_line lang at line).refusal ≡ None → (step_of_line lang at line).scene ≡ None → ⊥
  line_none None line taken none = begun_none (lang.begin line) taken none
  line_none (Some x) line taken none = absurd cc

  -- what begins nothing was blank, and nothing was begun before it
  pub record StillNone (at : Option S) (line : List ℕ) : Type 0 where
    pub before : at ≡ None
    pub blank : is_blank line ≡ true

  none_if : (at : Option S) (line : List ℕ) (many long blank : Bool) → is_blank line ≡ blank
      → (cond many (step_to at (Some TooManyLines)) (cond long (step_to at (Some TooLong)) (cond blank (step_to at None) (step_of_line lang at line)))).refusal ≡ None
      → (cond many (step_to at (Some TooManyLines)) (cond long (step_to at (Some TooLong)) (cond blank (step_to at None) (step_of_line lang at line)))).scene ≡ None
      → StillNone at line
  none_if at line true long blank is taken none = absurd cc
  none_if at line false true blank is taken none = absurd cc
  none_if at line false false true is taken none = record { before = none; blank = is }
  none_if at line false false false is taken none = absurd (line_none at line taken none)

  pub still_none : (n : ℕ) (at : Option S) (line : List ℕ) → (step lang n at line).refusal ≡ None → (step lang n at line).scene ≡ None → StillNone at line
  unfolding step
  still_none n at line taken none = none_if at line (nat_lt max_lines n) (nat_lt max_line (length line)) (is_blank line) refl taken none

  -- ---- blank lines begin nothing

  blank_if : (many long : Bool) (st : Step S) → (cond many (step_to None (Some TooManyLines)) (cond long (step_to None (Some TooLong)) (cond true (step_to None None) st))).scene ≡ None
  blank_if true long st = refl
  blank_if false true st = refl
  blank_if false false st = refl

  step_blank_none : (n : ℕ) (line : List ℕ) → is_blank line ≡ true → (step lang n None line).scene ≡ None
  unfolding step
  step_blank_none n line blank = rw blank (blank_if (nat_lt max_lines n) (nat_lt max_line (length line)) (step_of_line lang None line))

  unless_none : (n : ℕ) (at : Option S) (k : Option Refusal) (rest : Meaning S) → at ≡ None → rest.scene ≡ None → (unless_stopped n at k rest).scene ≡ None
  unless_none n at None rest here later = later
  unless_none n at (Some k) rest here later = here

  all_blank : (l : List ℕ) (ls : List (List ℕ)) → first_full (l ∷ ls) ≡ None → (b : Bool) → is_blank l ≡ b → (b ≡ true) × (first_full ls ≡ None)
  all_blank l ls h true is = (refl, sym (blank_first l ls is) ∙ h)
  all_blank l ls h false is = let full = full_first l ls is in absurd cc

  -- lines that are all blank mean no scene
  pub none_begun : (ls : List (List ℕ)) (n : ℕ) → first_full ls ≡ None → (meaning_from lang ls n None).scene ≡ None
  unfolding meaning_from
  none_begun [] n h = refl
  none_begun (l ∷ ls) n h =
      let blank = all_blank l ls h (is_blank l) refl in
      let here = step_blank_none n l blank.0 in
      unless_none n (step lang n None l).scene (step lang n None l).refusal (meaning_from lang ls (n + 1) (step lang n None l).scene) here
      (ap (λ (at : Option S). (meaning_from lang ls (n + 1) at).scene) here ∙ none_begun ls (n + 1) blank.1)
