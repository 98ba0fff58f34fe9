use Rattle.std.proofs.Common.{◌≡◌, All, None, vec_len}
use Rattle.irig_plant.proofs.plant.Plant.no_cached_ports.Given as goal

abbrev pub invariant-loop : goal.invariant-loop
invariant-loop g l = record {
  count : vec_len l.cached_ports ≡ l.counter;
  none : All (λ cached_port. cached_port ≡ None) l.cached_ports.items;
}
