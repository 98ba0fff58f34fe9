-- A run of one of two plays as a run of that play alone.
-- Source: docs/SCENARIOS.md, the version of a plant line.
use Rattle.std.specs.Prelude.{◌≡◌, ℕ, Bool, true, false, List, Result}
use Rattle.irig_device.specs.Lines.{Bytes}
use Rattle.report_run.specs.Lines.{lines}
use Rattle.report_run.specs.Meanings.{Language}
use Rattle.report_run.specs.Texts.{Texts, first_of}
use Rattle.report_run.specs.Runs.{AreBytesOf, RunFor}
use Rattle.report_run.specs.declared.fault.SceneFault.{SceneFault}
use Rattle.report_run.specs.declared.either.EitherOutcome.{EitherOutcome}
use Rattle.report_run.specs.declared.either.EitherOutcome.TheVariants.{First, Second}
use Rattle.report_run.specs.Sides.{given_as}

-- whether the first line of some bytes that is not blank chooses the second of two plays
abbrev pub chooses : (List ℕ → Bool) → List ℕ → Bool
chooses chosen x = chosen (first_of (lines x))

-- a run answers what one play answers, as another value; and this holds of that play's answer
pub record AnswersAs {O P : Type 0} (f : O → P) (r : Result P SceneFault)
    (Holds : Result O SceneFault → Type 0) : Type 0 where
  pub answer : Result O SceneFault
  pub is : r ≡ given_as f answer
  pub holds : Holds answer

-- for the bytes of the input, and if it does not tell them, for some: if their first line does not
-- choose the second play, the first ran as it does alone, and else the second
pub record RanAlone {S T O P : Type 0} (chosen : List ℕ → Bool) (a : Language S) (b : Language T)
    (f : S → ℕ → O → Type 0) (g : T → ℕ → P → Type 0) (t : Texts S) (u : Texts T)
    (r : Result (EitherOutcome O P) SceneFault) (was left old new : Bytes) : Type 0 where
  pub bytes : List ℕ
  pub of_input : AreBytesOf was bytes
  pub first : chooses chosen bytes ≡ false
      → AnswersAs First r (λ answer. RunFor a f t answer bytes was left old new)
  pub second : chooses chosen bytes ≡ true
      → AnswersAs Second r (λ answer. RunFor b g u answer bytes was left old new)
