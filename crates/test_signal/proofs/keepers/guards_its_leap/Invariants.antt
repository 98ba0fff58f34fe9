use Rattle.std.proofs.Common.{◌≡◌}
use Rattle.irig_vote.specs.declared.redundancy.Redundancy.TheVariants.{Three}
use Rattle.test_signal.proofs.keepers.guards_its_leap.Given as goal

abbrev pub invariant-loop-n : goal.invariant-loop-n
invariant-loop-n l = record {
  lines : l.keeper.clock.redundancy ≡ Three;
  edge : l.clocks.edge ≡ l.n;
}
