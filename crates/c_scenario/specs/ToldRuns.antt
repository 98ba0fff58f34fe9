-- A run that keeps what devices told: what stands while it goes on, and when it has ended.
-- Source: docs/OUTPUT.md, docs/C.md; this project's profile.
use Rattle.std.specs.Prelude.{◌≡◌, ℕ, List, [], Option, Some}
use Rattle.irig_station_scene.specs.declared.run.StationRun.{StationRun}
use Rattle.irig_station_scene.specs.StationHeard.{HasHeardStation}
use Rattle.irig_station_scene.specs.StationScenes.{StationScene}
use Rattle.irig_station_scene.specs.StationTexts.{quiet_texts}
use Rattle.c_scenario.specs.declared.told_log.ToldLog.{ToldLog}
use Rattle.c_scenario.specs.Told.{told_in_scene}

-- what is kept is the log of a scene
abbrev pub HoldsTold : ToldLog → StationScene → Type 0
HoldsTold log x = log.entries.items ≡ told_in_scene (Some x)

-- a run of the text that keeps it
pub record HasHeardTold (text : List ℕ) (run : StationRun ToldLog) : Type 0 where
  pub left : Option (List ℕ)
  pub wrote : List ℕ
  pub heard : HasHeardStation HoldsTold quiet_texts run.answer run.listener (Some text) left (Some [])
      (Some wrote)
