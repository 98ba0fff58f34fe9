use Rattle.std.proofs.Common.{◌≡◌}
use Rattle.irig_vote.specs.declared.redundancy.Redundancy.TheVariants.{Three}
use Rattle.test_signal.proofs.played.an_audit_is_kept_until_two_lines_are_untrue.Given as goal

abbrev pub invariant-loop-n : goal.invariant-loop-n
invariant-loop-n g l = (l.device.clock.redundancy ≡ Three) × (l.counter.first ≡ 4291000000)
