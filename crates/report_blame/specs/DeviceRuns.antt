-- What stands after entries of devices.
use Rattle.std.specs.Prelude.{◌≡◌, List, [], ◌∷◌, ◌++◌, length}
use Rattle.irig_station.specs.declared.entry.Entry.{Entry}
use Rattle.irig_station.specs.StationSetups.{StationSetup}
use Rattle.irig_station_scene.specs.StationScenes.{StationScene, newest_first}
use Rattle.report_found.specs.declared.finding.Finding.{Finding}
use Rattle.report_found.specs.DeviceRuns.{IsBookOfDevices}
use Rattle.report_found.specs.DeviceScenes.{ended_by_tick}
use Rattle.report_found.specs.DeviceTicks.{tick_of_told}
use Rattle.report_blame.specs.declared.observer.Observer.{Observer}
use Rattle.report_blame.specs.Reaches.{AreReaches}

-- what the newest entries end, that come after others, the newest first of both
abbrev pub ended_since : StationSetup → (before newest : List Entry) → List Finding
ended_since s before [] = []
ended_since s before (e ∷ newest) =
    ended_since s before newest ++ ended_by_tick s (newest ++ before) (tick_of_told s e)

-- an observer has the ticks of a station's devices by these entries, the newest first, and how far
-- off their seconds lay
pub record HasSeen (o : Observer) (s : StationSetup) (entries : List Entry) : Type 0 where
  pub book : IsBookOfDevices o.book s entries
  pub reaches : AreReaches o.reaches (length s.devices) entries

-- so by entries that come after others, of which it keeps what they end
pub record HasSeenSince (o : Observer) (s : StationSetup) (before newest : List Entry)
    : Type 0 where
  pub seen : HasSeen o s (newest ++ before)
  pub ended : o.ended.items ≡ ended_since s before newest

-- so of a scene
abbrev pub IsObserverAtStation : Observer → StationScene → Type 0
IsObserverAtStation o x = HasSeen o x.plan.setup (newest_first x)
