-- A scenario, whatever its plant has: what its lines mean, and a run that is listened to.
-- Source: docs/SCENARIOS.md, the version.
use Rattle.std.specs.Prelude.{ℕ, Bool, List, ◌⊎◌, Option, Result}
use Rattle.irig_device.specs.Lines.{Bytes}
use Rattle.scenario_devices.specs.StationLine.{is_station_line}
use Rattle.report_run.specs.declared.fault.SceneFault.{SceneFault}
use Rattle.report_run.specs.Meanings.{Language, Meaning, meaning_of}
use Rattle.report_run.specs.Runs.{IsDone, RanTo}
use Rattle.report_run.specs.Texts.{Texts}
use Rattle.report_run.specs.declared.either.Either.{Either}
use Rattle.report_run.specs.declared.either.EitherOutcome.{EitherOutcome}
use Rattle.report_run.specs.Choice.{EndsForEither, StandsForEither, either_entries, either_of, either_texts}
use Rattle.irig_scene.specs.declared.outcome.Outcome.{Outcome}
use Rattle.irig_scene.specs.Run.{Ends}
use Rattle.irig_scene.specs.Scene.{Scene, entries_in, scenario}
use Rattle.irig_scene.specs.Texts.{Texts as TextsOfScene, of_scenes}
use Rattle.irig_station_scene.specs.declared.outcome.StationOutcome.{StationOutcome}
use Rattle.irig_station_scene.specs.StationRuns.{StationEnds}
use Rattle.irig_station_scene.specs.StationScenes.{StationScene, station_entries, station_scenario}

-- a scene of readers, or one of devices
abbrev pub AnyScene : Type 0
AnyScene = Scene ⊎ StationScene

-- what lines mean, by the version of the first
abbrev pub any_scenario : Language AnyScene
any_scenario = either_of is_station_line scenario station_scenario

-- what the bytes x mean
abbrev pub any_meaning : List ℕ → Meaning AnyScene
any_meaning x = meaning_of any_scenario x

-- how so many lines may end that leave a scene
abbrev pub AnyEnds : AnyScene → ℕ → EitherOutcome Outcome StationOutcome → Type 0
AnyEnds = EndsForEither Ends StationEnds

-- what is said of readers, or of devices
abbrev pub any_texts : TextsOfScene → Texts StationScene → Texts AnyScene
any_texts t u = either_texts is_station_line (of_scenes t) u

-- a run of a scenario for the bytes of its input, and what who listened to it heard of them
pub record HasHeard {L M : Type 0} (stands_for : L → Scene → Type 0)
    (stands_beside : M → StationScene → Type 0) (counts : Bool) (t : Texts AnyScene)
    (answer : Result (EitherOutcome Outcome StationOutcome) SceneFault)
    (listener : Option (Either L M)) (was left old new : Bytes) : Type 0 where
  pub notes : List ℕ
  pub ran : RanTo any_scenario AnyEnds (either_entries entries_in station_entries)
      (StandsForEither stands_for stands_beside) counts t answer listener notes was left old new
