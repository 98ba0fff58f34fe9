use Rattle.std.proofs.Common.{◌≡◌, ◌<◌, ℕ, All, get_or, vec_len}
use Rattle.irig_reader.specs.History.{new_history}
use Rattle.irig_plant.specs.Schedule.{setup_at}
use Rattle.irig_plant.specs.History.{IsTickedReader}
use Rattle.irig_plant.proofs.plant.Plant.new_readers.Given as goal

abbrev pub invariant-loop-setup : goal.invariant-loop-setup
invariant-loop-setup g l = record {
  count : vec_len l.ticked ≡ l.setup-index;
  new : (r : ℕ) (d : _) → r < l.setup-index → IsTickedReader (new_history l.rules (setup_at l.readers r).rules (setup_at l.readers r).table l.redundancy) 0 (get_or l.ticked.items r d);
  wired : All (λ x. x.reader.redundancy ≡ l.redundancy) l.ticked.items;
}
