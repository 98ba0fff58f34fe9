use Rattle.std.proofs.Common.{◌≡◌, All, vec_len}
use Rattle.irig_plant.specs.History.{IsNew}
use Rattle.example_uses.proofs.plants.three_generators.Given as goal

abbrev pub invariant-loop : goal.invariant-loop
invariant-loop l = record {
  count : vec_len l.generators ≡ l.counter;
  new : All (IsNew l.fn.rules) l.generators.items;
}
