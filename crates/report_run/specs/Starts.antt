-- How many entries a log has where each line begins: so it is known which line asked for an entry.
-- Source: docs/SCENARIOS.md; this project's profile.
use Rattle.std.specs.Prelude.{ℕ, ◌+◌, Bool, if◌then◌else◌, List, [], ◌∷◌, ◌++◌, Option, Some, None}
use Rattle.text_faults.specs.declared.refusal.Refusal.{Refusal}
use Rattle.report_run.specs.Meanings.{Language, step}

-- how many entries the log of a scene has, none before there is one
abbrev pub entry_count : {S : Type 0} → (S → ℕ) → Option S → ℕ
entry_count entries None = 0
entry_count entries (Some x) = entries x

-- what is noted where a line begins: that number, if it is counted
abbrev pub noted_at : {S : Type 0} → (S → ℕ) → Bool → Option S → List ℕ
noted_at entries counts at = if counts then entry_count entries at ∷ [] else []

-- nothing is noted after a line that is refused
abbrev pub unless_over : Option Refusal → List ℕ → List ℕ
unless_over None notes = notes
unless_over (Some k) notes = []

-- what is noted of lines from number n on, after some scene
unfoldable pub starts_from : {S : Type 0} → Language S → (S → ℕ) → Bool → List (List ℕ) → ℕ → Option S
    → List ℕ
starts_from lang entries counts [] n at = []
starts_from lang entries counts (l ∷ ls) n at =
    noted_at entries counts at ++ unless_over (step lang n at l).refusal
    (starts_from lang entries counts ls (n + 1) (step lang n at l).scene)
