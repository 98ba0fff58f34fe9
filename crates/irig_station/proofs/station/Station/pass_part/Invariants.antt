use Rattle.std.proofs.Common.{◌≡◌, ◌<◌, ◌≤◌, ℕ, All, length, get_or, true}
use Rattle.irig_station.specs.ValidEntries.{IsValidEntry}
use Rattle.irig_simulated.specs.declared.simulated.Simulated.{Simulated}
use Rattle.irig_station.specs.StationSetups.{StationSetup}
use Rattle.irig_station.specs.StationStandings.{StationStanding, devices_gone}
use Rattle.irig_station.specs.Stations.{IsStationAt, LetGo}
use Rattle.irig_station.specs.Together.{IsDeviceAt}
use Rattle.irig_station.proofs.PassLaws.{KeepsRest}
use Rattle.irig_station.proofs.station.Station.pass_part.Given as goal

-- those so far stand at the stop, the others where all stood
abbrev pub invariant-loop-r : goal.invariant-loop-r
invariant-loop-r g l = record {
  spent : l.self.is_spent ≡ true;
  valid : ∥ All IsValidEntry l.self.log.items ∥₁;
  rest : KeepsRest l.self l.fn.self;
  count : length l.self.devices.items ≡ length l.fn.self.devices.items;
  gone : (q : ℕ) (d : Simulated _ _) → q < l.r → IsDeviceAt (length l.fn.self.generators.items) l.stop_us (get_or l.self.devices.items q d);
  left : (q : ℕ) (d : Simulated _ _) → l.r ≤ q → q < length l.fn.self.devices.items → IsDeviceAt (length l.fn.self.generators.items) l.fn.self.now_us (get_or l.self.devices.items q d);
  course : (s : StationSetup) (x : StationStanding) (shown : LetGo) → IsStationAt l.fn.self s x shown → IsStationAt l.self s (devices_gone s l.stop_us l.r x) shown;
}
