use Rattle.std.proofs.Common.{◌≡◌, drop}
use Rattle.record_comtrade.specs.Configs.{has_slash}
use Rattle.record_comtrade.proofs.rates.has_slash.Given as goal

-- what is left decides
abbrev pub invariant-loop-byte : goal.invariant-loop-byte
invariant-loop-byte l = has_slash (drop l.byte-index l.text) ≡ has_slash l.text
