use Rattle.std.proofs.Common.{◌≡◌}
use Rattle.irig_vote.specs.declared.redundancy.Redundancy.TheVariants.{Three}
use Rattle.test_signal.proofs.rates.a_counter_that_is_37_ppm_fast_is_measured_and_learned.Given as goal

abbrev pub invariant-loop-n : goal.invariant-loop-n
invariant-loop-n g l = l.keeper.clock.redundancy ≡ Three
