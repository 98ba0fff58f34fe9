use Rattle.std.proofs.Common.{ℕ, List, All, length, take}
use Rattle.std.specs.Prelude.{reverse}
use Rattle.irig_station.specs.declared.entry.Entry.{Entry}
use Rattle.irig_station.specs.Stations.{IsStationAt, LetGo}
use Rattle.irig_station.specs.StationSetups.{StationSetup}
use Rattle.irig_station.specs.StationStandings.{StationStanding}
use Rattle.irig_station.specs.ValidEntries.{IsOfDevice}
use Rattle.report_found.specs.Soundness.{IsSoundFinding}
use Rattle.report_blame.specs.DeviceRuns.{HasSeen, HasSeenSince}
use Rattle.report_blame.proofs.observer.Observer.take_all.Given as goal

abbrev pub invariant-loop-entry : goal.invariant-loop-entry
invariant-loop-entry g l =
    ((s : StationSetup) (x : StationStanding) (shown : LetGo) (before : List Entry) → IsStationAt l.station s x shown
    → All (IsOfDevice (length s.devices)) l.entries → HasSeen l.initial.self s before
    → HasSeenSince l.self s before (reverse (take l.entry-index l.entries)))
    × All IsSoundFinding l.self.ended.items
