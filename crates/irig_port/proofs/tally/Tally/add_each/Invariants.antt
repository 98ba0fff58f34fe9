use Rattle.std.proofs.Common.{ℕ, List, ◌++◌, ◌≤◌, take}
use Rattle.irig_port.specs.Heard.{symbols_heard}
use Rattle.irig_port.specs.Tallies.{IsTallyOf}
use Rattle.irig_port.proofs.tally.Tally.add_each.Given as goal

abbrev pub invariant-loop-width_us : goal.invariant-loop-width_us
invariant-loop-width_us l = record {
  added : (w : List ℕ) → IsTallyOf l.initial.self (symbols_heard w) → IsTallyOf l.tally (symbols_heard (w ++ take l.width_us-index l.widths_us));
  few : l.initial.self.count ≤ 101 → l.tally.count ≤ 101;
}
