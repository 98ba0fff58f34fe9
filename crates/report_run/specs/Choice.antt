-- One of two plays, chosen by the first line: what lines mean, what is written of them, and how
-- entries are counted and runs end.
-- Source: docs/SCENARIOS.md, the version of a plant line.
use Rattle.std.specs.Prelude.{ℕ, Bool, List, if◌then◌else◌, ◌⊎◌, Result}
use mathlib.Core.Logic.{inl, inr}
use Rattle.text_faults.specs.declared.refusal.Refusal.{Refusal}
use Rattle.report_run.specs.Meanings.{Language, Next}
use Rattle.report_run.specs.Texts.{Texts}
use Rattle.report_run.specs.declared.either.Either.{Either}
use Rattle.report_run.specs.declared.either.Either.TheVariants as play
use Rattle.report_run.specs.declared.either.EitherOutcome.{EitherOutcome}
use Rattle.report_run.specs.declared.either.EitherOutcome.TheVariants as outcome
use Rattle.report_run.specs.Sides.{given_as, next_as}

-- ---- what lines mean

-- what the first line begins, by the language that it chooses
abbrev pub begin_either : {S T : Type 0} → (List ℕ → Bool) → Language S → Language T → List ℕ
    → Result (S ⊎ T) Refusal
begin_either chosen a b line =
    if chosen line then given_as inr (b.begin line) else given_as inl (a.begin line)

-- what a further line leaves of a scene, by the language of this scene
abbrev pub next_either : {S T : Type 0} → Language S → Language T → S ⊎ T → List ℕ → Next (S ⊎ T)
next_either a b (inl x) line = next_as inl (a.next x line)
next_either a b (inr y) line = next_as inr (b.next y line)

-- the second language if the first line chooses it, else the first
abbrev pub either_of : {S T : Type 0} → (List ℕ → Bool) → Language S → Language T → Language (S ⊎ T)
either_of chosen a b = record { begin = begin_either chosen a b; next = next_either a b }

-- ---- what is written

-- what the function of a scene's own side gives
abbrev pub by_side : {S T A : Type 0} → (S → A) → (T → A) → S ⊎ T → A
by_side f g (inl x) = f x
by_side f g (inr y) = g y

-- what the first line chooses is said of it, and what is said of a scene is by its own side
abbrev pub either_texts : {S T : Type 0} → (List ℕ → Bool) → Texts S → Texts T → Texts (S ⊎ T)
either_texts chosen a b = record {
  first = λ line. if chosen line then b.first line else a.first line;
  said = by_side a.said b.said;
  closing = by_side a.closing b.closing;
  end = by_side a.end b.end;
}

-- ---- what plays

-- a play stands as a scene of its own side leaves it, and as none of the other
abbrev pub StandsForEither : {A B S T : Type 0} → (A → S → Type 0) → (B → T → Type 0) → Either A B
    → S ⊎ T → Type 0
StandsForEither f g (play.First p) (inl x) = f p x
StandsForEither f g (play.Second p) (inr y) = g p y
StandsForEither f g (play.First p) (inr y) = ⊥
StandsForEither f g (play.Second p) (inl x) = ⊥

-- how many entries the log of a scene has, by its own side
abbrev pub either_entries : {S T : Type 0} → (S → ℕ) → (T → ℕ) → S ⊎ T → ℕ
either_entries f g x = by_side f g x

-- so many lines that leave a scene end as they do on its own side, and never as on the other
abbrev pub EndsForEither : {S T O P : Type 0} → (S → ℕ → O → Type 0) → (T → ℕ → P → Type 0) → S ⊎ T
    → ℕ → EitherOutcome O P → Type 0
EndsForEither f g (inl x) lines (outcome.First o) = f x lines o
EndsForEither f g (inr y) lines (outcome.Second o) = g y lines o
EndsForEither f g (inl x) lines (outcome.Second o) = ⊥
EndsForEither f g (inr y) lines (outcome.First o) = ⊥
