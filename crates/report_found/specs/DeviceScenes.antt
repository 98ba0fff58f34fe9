-- All that is found in a scenario with devices: who lied, and what it cost.
-- Source: docs/OUTPUT.md.
use Rattle.std.specs.Prelude.{ℕ, List, [], ◌∷◌, ◌++◌, length, Option, Some, None}
use Rattle.irig_station.specs.declared.entry.Entry.{Entry}
use Rattle.irig_station.specs.StationSetups.{StationSetup}
use Rattle.irig_station_scene.specs.StationScenes.{StationScene, newest_first}
use Rattle.report_found.specs.declared.finding.Finding.{Finding}
use Rattle.report_found.specs.declared.tick.Tick.{Tick}
use Rattle.report_found.specs.Accounts.{account_of}
use Rattle.report_found.specs.DeviceTicks.{device_ticks, tick_of_told}
use Rattle.report_found.specs.Findings.{lists_below, ended_found, open_found}

-- what a tick ends, if there is one, that comes after these entries
abbrev pub ended_by_tick : StationSetup → List Entry → Option Tick → List Finding
ended_by_tick s before None = []
ended_by_tick s before (Some t) =
    ended_found t.entry.reader (length s.generators)
    (account_of (device_ticks s t.entry.reader before)) t

-- so of all entries, the newest first: those stretches and the silence of a device that do not go on
-- at what it told
abbrev pub ended_by_entries : StationSetup → List Entry → List Finding
ended_by_entries s [] = []
ended_by_entries s (e ∷ before) =
    ended_by_entries s before ++ ended_by_tick s before (tick_of_told s e)

-- what is open behind them, device by device
abbrev pub open_of_devices : StationSetup → List Entry → List Finding
open_of_devices s before =
    lists_below
    (λ r. open_found r (length s.generators) (account_of (device_ticks s r before)))
    (length s.devices)

-- all that is found in a scene
abbrev pub found_in_station : StationScene → List Finding
found_in_station x =
    ended_by_entries x.plan.setup (newest_first x)
    ++ open_of_devices x.plan.setup (newest_first x)
