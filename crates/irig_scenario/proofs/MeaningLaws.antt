-- What is so of each scene that lines leave, whatever their language.
use Rattle.std.proofs.Common.{◌≡◌, ℕ, ◌+◌, Bool, true, false, not, cond, nat_lt, length, List, [], ◌∷◌, Option, Some, None, Result, Ok, Err, refl, subst}
use Rattle.std.specs.Prelude.{⊤}
use Rattle.std.specs.List.{find}
use Rattle.text_faults.specs.declared.refusal.Refusal.{Refusal}
use Rattle.text_faults.specs.declared.refusal.Refusal.TheVariants.{TooLong, TooManyLines}
use Rattle.report_run.specs.Lines.{lines, is_blank, max_line, max_lines}
use Rattle.report_run.specs.Meanings.{Language, Meaning, step_to, step_of_first, step_of_line, step, unless_stopped, meaning_at_end, meaning_from, meaning_of}

module _ {S : Type 0} (lang : Language S) (Fact : S → Type 0) (begins : (line : List ℕ) (x : S) → lang.begin line ≡ Ok x → Fact x) (leads : (x : S) (line : List ℕ) → Fact x → Fact (lang.next x line).scene) where
  -- of the scene, if there is one
  abbrev IfScene : Option S → Type 0
  IfScene None = ⊤
  IfScene (Some x) = Fact x

  begun : (o : Result S Refusal) → ((x : S) → o ≡ Ok x → Fact x) → IfScene (step_of_first o).scene
  begun (Ok x) h = h x refl
  begun (Err k) h = tt

  taken : (at : Option S) (line : List ℕ) → IfScene at → IfScene (step_of_line lang at line).scene
  taken None line h = begun (lang.begin line) (begins line)
  taken (Some x) line h = leads x line h

  if_taken : (at : Option S) (line : List ℕ) (many long blank : Bool) → IfScene at
      → IfScene (cond many (step_to at (Some TooManyLines)) (cond long (step_to at (Some TooLong)) (cond blank (step_to at None) (step_of_line lang at line)))).scene
  if_taken at line true long blank h = h
  if_taken at line false true blank h = h
  if_taken at line false false true h = h
  if_taken at line false false false h = taken at line h

  stepped : (n : ℕ) (at : Option S) (line : List ℕ) → IfScene at → IfScene (step lang n at line).scene
  unfolding step
  stepped n at line h = if_taken at line (nat_lt max_lines n) (nat_lt max_line (length line)) (is_blank line) h

  unless : (n : ℕ) (at : Option S) (k : Option Refusal) (rest : Meaning S) → IfScene at → IfScene rest.scene → IfScene (unless_stopped n at k rest).scene
  unless n at None rest h l = l
  unless n at (Some k) rest h l = h

  ended : (n : ℕ) (at : Option S) → IfScene at → IfScene (meaning_at_end n at).scene
  ended n None h = h
  ended n (Some x) h = h

  meant : (ls : List (List ℕ)) (n : ℕ) (at : Option S) → IfScene at → IfScene (meaning_from lang ls n at).scene
  unfolding meaning_from
  meant [] n at h = ended n at h
  meant (l ∷ ls) n at h =
      let next = stepped n at l h in
      unless n (step lang n at l).scene (step lang n at l).refusal (meaning_from lang ls (n + 1) (step lang n at l).scene) next (meant ls (n + 1) (step lang n at l).scene next)

  pub each_scene : (x : List ℕ) (at : S) → (meaning_of lang x).scene ≡ Some at → Fact at
  each_scene x at e = subst IfScene e (meant (lines x) 1 None tt)

-- ---- the first line

module _ {S : Type 0} (lang : Language S) (Begun : List ℕ → S → Type 0) (begins : (line : List ℕ) (x : S) → lang.begin line ≡ Ok x → Begun line x)
    (leads : (first : List ℕ) (x : S) (line : List ℕ) → Begun first x → Begun first (lang.next x line).scene) where
  -- the scene is one that a line began
  abbrev Keeps : List ℕ → Option S → Type 0
  Keeps first None = ⊥
  Keeps first (Some x) = Begun first x

  if_kept : (first : List ℕ) (x : S) (line : List ℕ) (many long blank : Bool) → Begun first x
      → Keeps first (cond many (step_to (Some x) (Some TooManyLines)) (cond long (step_to (Some x) (Some TooLong)) (cond blank (step_to (Some x) None) (step_of_line lang (Some x) line)))).scene
  if_kept first x line true long blank h = h
  if_kept first x line false true blank h = h
  if_kept first x line false false true h = h
  if_kept first x line false false false h = leads first x line h

  kept : (first : List ℕ) (n : ℕ) (at : Option S) (line : List ℕ) → Keeps first at → Keeps first (step lang n at line).scene
  unfolding step
  kept first n None line h = absurd h
  kept first n (Some x) line h = if_kept first x line (nat_lt max_lines n) (nat_lt max_line (length line)) (is_blank line) h

  unless_kept : (first : List ℕ) (n : ℕ) (at : Option S) (k : Option Refusal) (rest : Meaning S) → Keeps first at → Keeps first rest.scene → Keeps first (unless_stopped n at k rest).scene
  unless_kept first n at None rest h l = l
  unless_kept first n at (Some k) rest h l = h

  all_kept : (first : List ℕ) (ls : List (List ℕ)) (n : ℕ) (at : Option S) → Keeps first at → Keeps first (meaning_from lang ls n at).scene
  unfolding meaning_from
  all_kept first ls n None h = absurd h
  all_kept first [] n (Some x) h = h
  all_kept first (l ∷ ls) n (Some x) h =
      let next = kept first n (Some x) l h in
      unless_kept first n (step lang n (Some x) l).scene (step lang n (Some x) l).refusal (meaning_from lang ls (n + 1) (step lang n (Some x) l).scene) next (all_kept first ls (n + 1) (step lang n (Some x) l).scene next)

  -- the first line that is not blank has begun it
  pub record IsBegunBy (ls : List (List ℕ)) (x : S) : Type 0 where
    pub line : List ℕ
    pub first : find (λ l. not (is_blank l)) ls ≡ Some line
    pub begun : Begun line x

  by_first : (l : List ℕ) (ls : List (List ℕ)) (n : ℕ) (x : S) (o : Result S Refusal) → lang.begin l ≡ o → is_blank l ≡ false
      → (unless_stopped n (step_of_first o).scene (step_of_first o).refusal (meaning_from lang ls (n + 1) (step_of_first o).scene)).scene ≡ Some x → IsBegunBy (l ∷ ls) x
  by_first l ls n x (Err k) is full e = absurd cc
  by_first l ls n x (Ok y) is full e = record { line = l; first = rw full refl; begun = subst (Keeps l) e (all_kept l ls (n + 1) (Some y) (begins l y is)) }

  by_tests : (l : List ℕ) (ls : List (List ℕ)) (n : ℕ) (x : S) (many long blank : Bool) → is_blank l ≡ blank → ((m : ℕ) → (meaning_from lang ls m None).scene ≡ Some x → IsBegunBy ls x)
      → (unless_stopped n (cond many (step_to None (Some TooManyLines)) (cond long (step_to None (Some TooLong)) (cond blank (step_to None None) (step_of_line lang None l)))).scene
      (cond many (step_to None (Some TooManyLines)) (cond long (step_to None (Some TooLong)) (cond blank (step_to None None) (step_of_line lang None l)))).refusal
      (meaning_from lang ls (n + 1) (cond many (step_to None (Some TooManyLines)) (cond long (step_to None (Some TooLong)) (cond blank (step_to None None) (step_of_line lang None l)))).scene)).scene ≡ Some x
      → IsBegunBy (l ∷ ls) x
  by_tests l ls n x true long blank is next e = absurd cc
  by_tests l ls n x false true blank is next e = absurd cc
  by_tests l ls n x false false true is next e = (let later = next (n + 1) e in record { line = later.line; first = rw is later.first; begun = later.begun })
  by_tests l ls n x false false false is next e = by_first l ls n x (lang.begin l) refl is e

  begun_from : (ls : List (List ℕ)) (n : ℕ) (x : S) → (meaning_from lang ls n None).scene ≡ Some x → IsBegunBy ls x
  unfolding meaning_from step
  begun_from [] n x e = absurd cc
  begun_from (l ∷ ls) n x e = by_tests l ls n x (nat_lt max_lines n) (nat_lt max_line (length l)) (is_blank l) refl (λ m. begun_from ls m x) e

  pub begun_by : (bytes : List ℕ) (x : S) → (meaning_of lang bytes).scene ≡ Some x → IsBegunBy (lines bytes) x
  begun_by bytes x e = begun_from (lines bytes) 1 x e
