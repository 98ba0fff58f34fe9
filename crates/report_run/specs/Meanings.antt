-- What lines mean that are played one after another, whatever is played: the first that is not skipped
-- begins a scene, each further one leads it on, up to the first that is refused.
-- Source: docs/SCENARIOS.md.
use Rattle.std.specs.Prelude.{◌≡◌, ⊤, ℕ, ◌+◌, List, [], ◌∷◌, length, if◌then◌else◌, nat_lt, Option, Some, None, Result, Ok, Err}
use Rattle.text_faults.specs.declared.refusal.Refusal.{Refusal}
use Rattle.text_faults.specs.declared.refusal.Refusal.TheVariants.{TooLong, NoPlant, TooManyLines}
use Rattle.report_run.specs.Lines.{lines, is_blank, max_line, max_lines}

-- ---- what is played

-- the scene that a line leaves, and the line's refusal, if it was refused
pub record Next (S : Type 0) : Type 0 where
  pub scene : S
  pub refusal : Option Refusal

-- what lines say: what the first begins, and what a further one leaves of a scene
pub record Language (S : Type 0) : Type 0 where
  pub begin : List ℕ → Result S Refusal
  pub next : S → List ℕ → Next S

-- ---- one line

-- the scene that a line leaves, none before there is one, and the line's refusal, if it was refused
pub record Step (S : Type 0) : Type 0 where
  pub scene : Option S
  pub refusal : Option Refusal

-- this scene, and this refusal
abbrev pub step_to : {S : Type 0} → Option S → Option Refusal → Step S
step_to at k = record { scene = at; refusal = k }

-- what the first line gives
abbrev pub step_of_first : {S : Type 0} → Result S Refusal → Step S
step_of_first (Ok x) = step_to (Some x) None
step_of_first (Err k) = step_to None (Some k)

-- what a further line gives
abbrev pub step_of_next : {S : Type 0} → Next S → Step S
step_of_next next = step_to (Some next.scene) next.refusal

-- the first line that is not skipped begins, each further one leads on
abbrev pub step_of_line : {S : Type 0} → Language S → Option S → List ℕ → Step S
step_of_line lang None line = step_of_first (lang.begin line)
step_of_line lang (Some x) line = step_of_next (lang.next x line)

-- line n after some scene
unfoldable pub step : {S : Type 0} → Language S → ℕ → Option S → List ℕ → Step S
step lang n at line =
    if nat_lt max_lines n then step_to at (Some TooManyLines)
    else (if nat_lt max_line (length line) then step_to at (Some TooLong)
    else (if is_blank line then step_to at None else step_of_line lang at line))

-- ---- all lines

-- the refusal of a line, by its number
pub record Refused : Type 0 where
  pub line : ℕ
  pub refusal : Refusal

-- this line, and this refusal
abbrev pub refusal_at : ℕ → Refusal → Refused
refusal_at line k = record { line = line; refusal = k }

-- the scene that lines leave, and the refusal of the first that is refused, if one is
pub record Meaning (S : Type 0) : Type 0 where
  pub scene : Option S
  pub refused : Option Refused

-- this scene, and this refusal of a line
abbrev pub meaning : {S : Type 0} → Option S → Option Refused → Meaning S
meaning at k = record { scene = at; refused = k }

-- the input ends before line n; where nothing has begun that is refused too
abbrev pub meaning_at_end : {S : Type 0} → ℕ → Option S → Meaning S
meaning_at_end n None = meaning None (Some (refusal_at n NoPlant))
meaning_at_end n (Some x) = meaning (Some x) None

-- the refusal of line n, which leaves this scene, else what follows
abbrev pub unless_stopped : {S : Type 0} → ℕ → Option S → Option Refusal → Meaning S → Meaning S
unless_stopped n at None rest = rest
unless_stopped n at (Some k) rest = meaning at (Some (refusal_at n k))

-- the lines from number n on, after some scene
unfoldable pub meaning_from : {S : Type 0} → Language S → List (List ℕ) → ℕ → Option S → Meaning S
meaning_from lang [] n at = meaning_at_end n at
meaning_from lang (l ∷ ls) n at =
    unless_stopped n (step lang n at l).scene (step lang n at l).refusal
    (meaning_from lang ls (n + 1) (step lang n at l).scene)

-- what the bytes x mean
abbrev pub meaning_of : {S : Type 0} → Language S → List ℕ → Meaning S
meaning_of lang x = meaning_from lang (lines x) 1 None

-- none of these lines is refused, from number n on after some scene
abbrev pub AreTaken : {S : Type 0} → Language S → List (List ℕ) → ℕ → Option S → Type 0
AreTaken lang [] n at = ⊤
AreTaken lang (line ∷ lines) n at =
    ((step lang n at line).refusal ≡ None)
    × AreTaken lang lines (n + 1) (step lang n at line).scene
