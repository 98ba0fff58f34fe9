use Rattle.std.proofs.Common.{◌≡◌, drop}
use Rattle.record_comtrade.specs.Times.{all_steps}
use Rattle.record_comtrade.proofs.clock.all_steps.Given as goal

-- what is left decides
abbrev pub invariant-loop-rate : goal.invariant-loop-rate
invariant-loop-rate l = all_steps (drop l.rate-index l.rates) ≡ all_steps l.rates
