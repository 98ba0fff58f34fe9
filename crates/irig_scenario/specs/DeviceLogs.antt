-- What the log of a scenario with devices vouches for, by its bytes.
-- Source: docs/HEADLINE.md; this project's profile.
use Rattle.std.specs.Prelude.{◌≡◌, ℕ, true, List, [], ◌∷◌, ◌++◌, All, codes, Some}
use Rattle.std.specs.List.{Contains}
use Rattle.irig_station.specs.declared.entry.Entry.{Entry}
use Rattle.irig_station.specs.StationPromise.{IsTrueEntry}
use Rattle.report_log.specs.LogLines.{whole_lines}
use Rattle.report_run.specs.Meanings.{meaning_of}
use Rattle.irig_station_scene.specs.StationText.{station_entry_text}
use Rattle.irig_station_scene.specs.StationScenes.{StationScene, station_log, station_scenario}
use Rattle.irig_scenario.specs.StationLogs.{VouchesByStationLine, VouchesUntilBreak}

-- a line is that of an entry of a scene's log, and this is true: a second that is shown is T of its
-- edge, and begins no further from that than its bound says; a stamp names its instant
pub record IsTrueDeviceLine (x : StationScene) (line : List ℕ) : Type 0 where
  pub entry : Entry
  pub logged : Contains (station_log x) entry
  pub shown : station_entry_text x.plan.names true entry ≡ line ++ codes "\n"
  pub is_true : IsTrueEntry x.plan.setup entry

-- so are these, of the scene that the bytes x mean
pub record IsTrueDeviceLog (x : List ℕ) (above : List (List ℕ)) : Type 0 where
  pub scene : StationScene
  pub means : (meaning_of station_scenario x).scene ≡ Some scene
  pub lines : All (IsTrueDeviceLine scene) above

-- a log vouches for itself
pub record VouchesForDevices (x written : List ℕ) : Type 0 where
  -- if its last whole line is `premises kept`, each line above is that of an entry that is true
  pub entries : (above : List (List ℕ))
      → whole_lines written ≡ above ++ codes "premises kept" ∷ [] → IsTrueDeviceLog x above
  -- and what is read from its bytes is true, by the plant line alone, and stamps lie together
  pub shown : VouchesByStationLine x written
  -- if that says in which second the premises broke, so are the lines that were logged before
  pub until : VouchesUntilBreak x written
