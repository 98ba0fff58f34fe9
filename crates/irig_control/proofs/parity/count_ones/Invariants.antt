use Rattle.std.proofs.Common.{◌≡◌, ◌≤◌, take, Some}
use Rattle.std.specs.List.{count_by}
use Rattle.irig_frame.specs.Values.{is_one}
use Rattle.irig_control.proofs.parity.count_ones.Given as goal

-- the ones seen so far
abbrev pub invariant-loop-symbol : goal.invariant-loop-symbol
invariant-loop-symbol l = record {
  count : l.count ≡ count_by (λ s. is_one (Some s)) (take l.symbol-index l.symbols);
  few : l.count ≤ l.symbol-index;
}
