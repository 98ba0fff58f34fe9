use Rattle.std.proofs.Common.{◌≡◌}
use Rattle.irig_vote.specs.declared.redundancy.Redundancy.TheVariants.{Three}
use Rattle.test_signal.proofs.keepers.it_locks_holds_and_comes_back.Given as goal

abbrev pub invariant-loop-n : goal.invariant-loop-n
invariant-loop-n g l = l.keeper.clock.redundancy ≡ Three
