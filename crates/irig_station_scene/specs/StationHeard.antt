-- A run of a scenario with devices that is listened to.
-- Source: this project's profile.
use Rattle.std.specs.Prelude.{ℕ, false, List, Option, Result}
use Rattle.irig_device.specs.Lines.{Bytes}
use Rattle.report_run.specs.declared.fault.SceneFault.{SceneFault}
use Rattle.report_run.specs.Runs.{RanTo}
use Rattle.report_run.specs.Texts.{Texts}
use Rattle.irig_station_scene.specs.declared.outcome.StationOutcome.{StationOutcome}
use Rattle.irig_station_scene.specs.StationRuns.{StationEnds}
use Rattle.irig_station_scene.specs.StationScenes.{StationScene, station_entries, station_scenario}

-- for the bytes of its input, and what who listened heard of them
pub record HasHeardStation {L : Type 0} (stands_for : L → StationScene → Type 0)
    (t : Texts StationScene) (answer : Result StationOutcome SceneFault) (listener : Option L)
    (was left old new : Bytes) : Type 0 where
  pub notes : List ℕ
  pub ran : RanTo station_scenario StationEnds station_entries stands_for false t answer listener
      notes was left old new
