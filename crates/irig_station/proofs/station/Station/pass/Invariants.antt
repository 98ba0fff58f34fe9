use Rattle.std.proofs.Common.{◌≡◌, ◌-◌, ℕ, false}
use Rattle.irig_station.specs.StationSetups.{StationSetup}
use Rattle.irig_station.specs.StationStandings.{StationStanding, most_parts, time_gone}
use Rattle.irig_station.specs.Stations.{IsStationAt, LetGo}
use Rattle.irig_station.proofs.station.Station.pass.Given as goal

-- what is left leads to where all of it leads
abbrev pub invariant-loop : goal.invariant-loop
invariant-loop g l =
    (l.self.is_spent ≡ false)
    × ((s : StationSetup) (x : StationStanding) (shown : LetGo) → IsStationAt l.fn.self s x shown
    → (y : StationStanding) × IsStationAt l.self s y shown × (time_gone s (most_parts l.us - l.counter) l.left_us y ≡ time_gone s (most_parts l.us) l.us x))
