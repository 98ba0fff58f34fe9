-- What stands after entries of devices.
use Rattle.std.specs.Prelude.{◌≡◌, List, length}
use Rattle.irig_station.specs.declared.entry.Entry.{Entry}
use Rattle.irig_station.specs.StationSetups.{StationSetup}
use Rattle.irig_station_scene.specs.StationScenes.{StationScene, newest_first}
use Rattle.report_found.specs.DeviceTicks.{device_ticks}
use Rattle.report_lanes.specs.declared.drawer.Drawer.{Drawer}
use Rattle.report_lanes.specs.DeviceScenes.{ended_by_entries}
use Rattle.report_lanes.specs.OpenLanes.{AreOpen}

-- the lanes of a station's devices are open by these entries, the newest first, and all that ended
-- by them is kept
pub record HasDrawnSoFar (d : Drawer) (s : StationSetup) (before : List Entry) : Type 0 where
  pub readers : AreOpen d (length s.devices) (λ r. device_ticks s r before)
  pub ports : d.ports ≡ length s.generators
  pub ended : d.lanes.items ≡ ended_by_entries s before

-- so of a scene
abbrev pub IsDrawerAtStation : Drawer → StationScene → Type 0
IsDrawerAtStation d x = HasDrawnSoFar d x.plan.setup (newest_first x)
