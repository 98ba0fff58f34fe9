use Rattle.std.proofs.Common.{◌≡◌, ◌<◌, ℕ, All, Some, get_or, length}
use Rattle.std.specs.Prelude.{slice_get}
use Rattle.irig_frame.specs.declared.symbol.Symbol.{Symbol}
use Rattle.irig_vote.specs.Vote.{ports_in}
use Rattle.irig_simulated.specs.Setups.{DevicePlan}
use Rattle.irig_simulated.specs.declared.simulated.Simulated.{Simulated}
use Rattle.irig_simulated.specs.Kinds.{kind_of}
use Rattle.irig_simulated.specs.Courses.{begun_with}
use Rattle.irig_simulated.specs.Simulations.{IsSimulationOf}
use Rattle.irig_station.specs.Together.{IsDeviceAt}
use Rattle.irig_station.proofs.station.Station.new_devices.Given as goal

abbrev pub invariant-loop-setup : goal.invariant-loop-setup
invariant-loop-setup g l = record {
  count : length l.devices.items ≡ l.setup-index;
  each : All (IsDeviceAt (ports_in l.fn.redundancy) 0) l.devices.items;
  begun : (r : ℕ) (d : Simulated _ _) → r < l.setup-index → (setup : DevicePlan) (symbol : ℕ → ℕ → Symbol) → slice_get l.setups r ≡ Some setup → IsSimulationOf (get_or l.devices.items r d) (kind_of l.fn.rules l.fn.redundancy setup) symbol (begun_with (kind_of l.fn.rules l.fn.redundancy setup) setup.late_us);
}
