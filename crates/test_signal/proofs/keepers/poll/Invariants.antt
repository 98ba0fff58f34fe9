use Rattle.std.proofs.Common.{◌≡◌}
use Rattle.test_signal.proofs.keepers.poll.Given as goal

abbrev pub invariant-loop-turn : goal.invariant-loop-turn
invariant-loop-turn l = l.keeper.clock ≡ l.fn.keeper.clock
