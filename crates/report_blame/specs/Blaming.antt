-- What a run writes.
use Rattle.std.specs.Prelude.{◌≡◌, ℕ, List, None, Result, Ok, Err}
use Rattle.std.specs.Io.KnownBytes.{Appends}
use Rattle.irig_device.specs.Lines.{Bytes}
use Rattle.irig_device.specs.Watched.{AppendsPart}
use Rattle.report_run.specs.declared.fault.SceneFault.{SceneFault}
use Rattle.report_run.specs.declared.fault.SceneFault.TheVariants as fault
use Rattle.report_run.specs.Runs.{IsRefused, AreBytesOf, RunFor}
use Rattle.irig_scenario.specs.AnyScenario.{AnyEnds, any_meaning, any_scenario}
use Rattle.irig_scenario.specs.Scenarios.{ScenarioEnd}
use Rattle.report_blame.specs.BlameText.{any_blame_texts, blame_text}

-- all of the text was written, or a prefix of it
abbrev pub BlameRun : List ℕ → Result ScenarioEnd SceneFault → List ℕ → Bytes → Bytes → Type 0
BlameRun lines (Ok o) x old new =
    ((any_meaning x).refused ≡ None) × Appends old new (blame_text lines x)
BlameRun lines (Err (fault.Refused line refusal)) x old new =
    IsRefused (any_meaning x) line refusal × Appends old new (blame_text lines x)
BlameRun lines (Err fault.Read) x old new = AppendsPart old new (blame_text lines x)
BlameRun lines (Err fault.Write) x old new = AppendsPart old new (blame_text lines x)
BlameRun lines (Err fault.Memory) x old new = AppendsPart old new (blame_text lines x)

-- for the bytes of the input, and if it does not tell them, for some
pub record RanBlame (lines : List ℕ) (r : Result ScenarioEnd SceneFault)
    (was left old new : Bytes) : Type 0 where
  pub bytes : List ℕ
  pub of_input : AreBytesOf was bytes
  pub ran : BlameRun lines r bytes old new
  -- and what was read, how many lines there are, and which were written whole before a failure
  pub read : RunFor any_scenario AnyEnds (any_blame_texts lines) r bytes was left old new
