use Rattle.std.proofs.Common.{◌≡◌, drop}
use Rattle.record_comtrade.specs.Samples.{last_from}
use Rattle.record_comtrade.proofs.clock.last_of.Given as goal

-- what is left decides
abbrev pub invariant-loop-rate : goal.invariant-loop-rate
invariant-loop-rate l = last_from l.last (drop l.rate-index l.rates) ≡ last_from 0 l.rates
