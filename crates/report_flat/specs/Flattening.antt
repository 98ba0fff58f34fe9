-- What a run writes that writes what readers or devices hear.
use Rattle.std.specs.Prelude.{◌≡◌, ℕ, ◌≤◌, true, false, List, length, None, IfSome, Result, Ok, Err}
use Rattle.std.specs.Io.KnownBytes.{Appends}
use Rattle.irig_device.specs.Lines.{Bytes}
use Rattle.irig_device.specs.Watched.{AppendsPart}
use Rattle.report_log.specs.declared.shown.Shown.{Shown}
use Rattle.report_run.specs.declared.fault.SceneFault.{SceneFault}
use Rattle.report_run.specs.declared.fault.SceneFault.TheVariants as fault
use Rattle.report_run.specs.Lines.{lines, max_lines}
use Rattle.report_run.specs.Alone.{AnswersAs}
use Rattle.report_run.specs.Runs.{IsRefused, AreBytesOf, RunFor as RunOf}
use Rattle.report_run.specs.declared.either.EitherOutcome.TheVariants.{First, Second}
use Rattle.irig_scene.specs.Scene.{scenario, meaning_of, output_shown}
use Rattle.irig_scene.specs.declared.outcome.Outcome.{Outcome}
use Rattle.irig_scene.specs.ListenerRuns.{RunFor}
use Rattle.irig_scene.specs.LogLines.{OfWritten}
use Rattle.irig_station_scene.specs.StationRuns.{StationEnds}
use Rattle.irig_station_scene.specs.StationScenes.{station_scenario}
use Rattle.irig_scenario.specs.Scenarios.{ScenarioEnd, has_devices}
use Rattle.report_flat.specs.FlatText.{flat_text, flat_texts}
use Rattle.report_flat.specs.RowText.{row_texts}

-- ---- of a plant of readers

-- all of the text was written, or a prefix of it
abbrev pub FlatRun : Result Outcome SceneFault → List ℕ → Bytes → Bytes → Type 0
FlatRun (Ok o) x old new = ((meaning_of x).refused ≡ None) × Appends old new (flat_text x)
FlatRun (Err (fault.Refused line refusal)) x old new =
    IsRefused (meaning_of x) line refusal × Appends old new (flat_text x)
FlatRun (Err fault.Read) x old new = AppendsPart old new (flat_text x)
FlatRun (Err fault.Write) x old new = AppendsPart old new (flat_text x)
FlatRun (Err fault.Memory) x old new = AppendsPart old new (flat_text x)

-- for the bytes of the input, and if it does not tell them, for some
pub record RanFlat (r : Result Outcome SceneFault) (was left old new : Bytes) : Type 0 where
  pub bytes : List ℕ
  pub of_input : AreBytesOf was bytes
  pub ran : FlatRun r bytes old new
  -- and what was read, how many lines there are, and which were written whole before a failure
  pub read : RunFor flat_texts r bytes was left old new

-- after Ok the log of what was written is the log of the scenario, if it has few enough lines
abbrev pub HasTheLog : Result Outcome SceneFault → List ℕ → List ℕ → Type 0
HasTheLog r x written =
    (o : Outcome) → r ≡ Ok o → length (lines written) ≤ max_lines → (shown : Shown)
    → output_shown written shown ≡ output_shown x shown

-- ---- of either

-- for the bytes of the input, and if it does not tell them, for some
pub record RanEither (r : Result ScenarioEnd SceneFault) (was left old new : Bytes) : Type 0 where
  pub bytes : List ℕ
  pub of_input : AreBytesOf was bytes
  -- of a plant of readers what they hear is a scenario
  pub readers : has_devices bytes ≡ false
      → AnswersAs First r (λ answer. FlatRun answer bytes old new
      × RunFor flat_texts answer bytes was left old new)
  -- of a plant of devices the pulses that they hear are rows
  pub devices : has_devices bytes ≡ true
      → AnswersAs Second r (λ answer. RunOf station_scenario StationEnds row_texts answer bytes
      was left old new)

-- what was written of a plant of readers has the log of the scenario
abbrev pub WroteTheLog : Result ScenarioEnd SceneFault → (was old new : Bytes) → Type 0
WroteTheLog r was old new =
    IfSome was (λ x. has_devices x ≡ false
    → AnswersAs First r (λ answer. OfWritten old new (HasTheLog answer x)))
