use Rattle.std.proofs.Common.{◌≡◌, drop}
use Rattle.record_comtrade.specs.Texts.{texts_of}
use Rattle.record_comtrade.specs.Configs.{long_from}
use Rattle.record_comtrade.proofs.config.long_line.Given as goal

-- what is left decides
abbrev pub invariant-loop-at : goal.invariant-loop-at
invariant-loop-at l = long_from l.at (texts_of (drop l.at l.lines)) ≡ long_from 0 (texts_of l.lines)
