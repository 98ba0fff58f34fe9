-- All that is to be seen of a scenario with devices: a lane is a longest run of the seconds that a
-- device told at which it stood alike, or one of its lines told alike, from the edge of the first of
-- them to that of the last. So an edge between them that it did not tell belongs to it.
-- Source: docs/C.md.
use Rattle.std.specs.Prelude.{ℕ, List, [], ◌∷◌, ◌++◌, length, Option, Some, None}
use Rattle.irig_station.specs.declared.entry.Entry.{Entry}
use Rattle.irig_station.specs.StationSetups.{StationSetup}
use Rattle.irig_station_scene.specs.StationScenes.{StationScene, newest_first}
use Rattle.report_found.specs.declared.tick.Tick.{Tick}
use Rattle.report_found.specs.DeviceTicks.{device_ticks, tick_of_told}
use Rattle.report_found.specs.Findings.{lists_below}
use Rattle.report_lanes.specs.declared.lane.Lane.{Lane}
use Rattle.report_lanes.specs.Lanes.{open_of, ended_lanes, open_lanes}

-- what a tick ends, if there is one, that comes after these entries, and its mark
abbrev pub ended_by_tick : StationSetup → List Entry → Option Tick → List Lane
ended_by_tick s before None = []
ended_by_tick s before (Some t) =
    ended_lanes (length s.generators) (open_of (device_ticks s t.entry.reader before)) t

-- so of all entries, the newest first
abbrev pub ended_by_entries : StationSetup → List Entry → List Lane
ended_by_entries s [] = []
ended_by_entries s (e ∷ before) =
    ended_by_entries s before ++ ended_by_tick s before (tick_of_told s e)

-- what is open behind them, device by device
abbrev pub open_of_devices : StationSetup → List Entry → List Lane
open_of_devices s before =
    lists_below (λ r. open_lanes (length s.generators) (open_of (device_ticks s r before)))
    (length s.devices)

-- all that is to be seen in a scene
abbrev pub lanes_in_station : StationScene → List Lane
lanes_in_station x =
    ended_by_entries x.plan.setup (newest_first x)
    ++ open_of_devices x.plan.setup (newest_first x)
