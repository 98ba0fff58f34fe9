use Rattle.std.proofs.Common.{◌≡◌}
use Rattle.test_signal.proofs.rates.tell_frame.Given as goal

abbrev pub invariant-loop-symbol : goal.invariant-loop-symbol
invariant-loop-symbol l = l.keeper.clock ≡ l.fn.keeper.clock
