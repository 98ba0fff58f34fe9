-- What stands after entries of devices.
use Rattle.std.specs.Prelude.{◌≡◌, List, length}
use Rattle.irig_station.specs.declared.entry.Entry.{Entry}
use Rattle.irig_station.specs.StationSetups.{StationSetup}
use Rattle.irig_station_scene.specs.StationScenes.{StationScene, newest_first}
use Rattle.report_found.specs.declared.book.Book.{Book}
use Rattle.report_found.specs.declared.finder.Finder.{Finder}
use Rattle.report_found.specs.Books.{HasTicks}
use Rattle.report_found.specs.DeviceScenes.{ended_by_entries}
use Rattle.report_found.specs.DeviceTicks.{device_ticks}

-- a book has the ticks of a station's devices by these entries, the newest first
pub record IsBookOfDevices (b : Book) (s : StationSetup) (before : List Entry) : Type 0 where
  pub book : HasTicks b (length s.devices) (λ r. device_ticks s r before)
  pub ports : b.ports ≡ length s.generators

-- and all that ended by them is kept
pub record HasFoundSoFar (f : Finder) (s : StationSetup) (before : List Entry) : Type 0 where
  pub book : IsBookOfDevices f.book s before
  pub found : f.findings.items ≡ ended_by_entries s before

-- so of a scene
abbrev pub IsFinderAtStation : Finder → StationScene → Type 0
IsFinderAtStation f x = HasFoundSoFar f x.plan.setup (newest_first x)
