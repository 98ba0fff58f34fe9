-- A run of a scenario, whatever its plant has: which of both is known by the version of the first
-- line that is not blank.
-- Source: docs/SCENARIOS.md, the version; docs/OUTPUT.md.
use Rattle.std.specs.Prelude.{◌≡◌, ◌↔◌, ℕ, true, false, List, Bool, Result, Err, IfSome}
use Rattle.irig_device.specs.declared.watched.Watched.{Watched}
use Rattle.irig_device.specs.Lines.{Bytes}
use Rattle.irig_device.specs.Watched.{has_failed}
use Rattle.scenario_devices.specs.StationLine.{is_station_line}
use Rattle.report_log.specs.declared.shown.Shown.{Shown}
use Rattle.report_run.specs.declared.fault.SceneFault.{SceneFault}
use Rattle.report_run.specs.declared.fault.SceneFault.TheVariants.{Read, Write}
use Rattle.report_run.specs.Runs.{AreBytesOf, RunFor}
use Rattle.report_run.specs.Alone.{AnswersAs, chooses}
use Rattle.report_run.specs.declared.either.EitherOutcome.{EitherOutcome}
use Rattle.report_run.specs.declared.either.EitherOutcome.TheVariants.{First, Second}
use Rattle.irig_scene.specs.declared.outcome.Outcome.{Outcome}
use Rattle.irig_scene.specs.LogLines.{OfWritten}
use Rattle.irig_scene.specs.Run.{RanOn}
use Rattle.irig_scene.specs.WholeRun.{RunsTruly, left, written}
use Rattle.irig_station_scene.specs.declared.outcome.StationOutcome.{StationOutcome}
use Rattle.irig_station_scene.specs.StationRuns.{StationEnds}
use Rattle.irig_station_scene.specs.StationScenes.{station_scenario}
use Rattle.irig_station_scene.specs.StationTexts.{station_texts}
use Rattle.irig_scenario.specs.DeviceLogs.{VouchesForDevices}

-- the first line that is not blank is of version 4
abbrev pub has_devices : List ℕ → Bool
has_devices x = chooses is_station_line x

-- how a run without a refusal ends
abbrev pub ScenarioEnd : Type 0
ScenarioEnd = EitherOutcome Outcome StationOutcome

-- a run of some bytes: those of the input, and if it does not tell them, some for which this is the
-- answer
pub record RanScenario (shown : Shown) (r : Result ScenarioEnd SceneFault)
    (was left old new : Bytes) : Type 0 where
  pub bytes : List ℕ
  pub of_input : AreBytesOf was bytes
  -- of a plant of readers
  pub readers : has_devices bytes ≡ false
      → AnswersAs First r (λ answer. RanOn answer bytes shown was left old new)
  -- of a plant of devices: the log has no port lines
  pub devices : has_devices bytes ≡ true
      → AnswersAs Second r (λ answer. RunFor station_scenario StationEnds
      (station_texts shown.all) answer bytes was left old new)

-- a run of an input tells the truth
pub record RunsScenarioTruly {R W : Type 0} (remaining : R → Bytes) (contents : W → Bytes)
    (shown : Shown) (r : Result ScenarioEnd SceneFault) (before after : Watched R)
    (old new : Watched W) : Type 0 where
  -- of a plant of readers it promises all that such a run promises
  pub readers : IfSome (left remaining before) (λ x. has_devices x ≡ false
      → AnswersAs First r (λ answer.
      RunsTruly remaining contents shown answer before after old new))
  -- of a plant of devices the log vouches for itself: if the last whole line written is
  -- `premises kept`, each line above shows T of its edge to its bound, or a stamp that names its
  -- instant, and stamps of one instant lie together; if it says where the premises broke, so do the
  -- lines that were logged before
  pub devices : IfSome (left remaining before) (λ x. has_devices x ≡ true
      → OfWritten (written contents old) (written contents new) (VouchesForDevices x))
  -- after Ok or a refusal the log of the events is written, and the last line, and nothing else;
  -- after a failure a prefix of that. Nothing is read after the line in hand
  pub ran : RanScenario shown r (left remaining before) (left remaining after)
      (written contents old) (written contents new)
  -- it answers Read exactly if the input has failed in this call
  pub read : (r ≡ Err Read) ↔ (has_failed after ≡ true)
  -- and Write exactly if the output has
  pub write : (r ≡ Err Write) ↔ (has_failed new ≡ true)
