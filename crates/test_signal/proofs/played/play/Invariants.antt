use Rattle.std.proofs.Common.{◌≡◌, ◌<◌}
use Rattle.irig_vote.specs.declared.redundancy.Redundancy.TheVariants.{Three}
use Rattle.test_signal.proofs.played.play.Given as goal

abbrev pub invariant-loop-place : goal.invariant-loop-place
invariant-loop-place l = record {
  same : l.device.clock ≡ l.initial.device.clock;
  lines : l.device.clock.redundancy ≡ Three;
  early : l.second < 1000;
  counter : l.counter.first ≡ 4291000000;
}
