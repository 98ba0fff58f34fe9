use Rattle.std.proofs.Common.{◌≡◌, ◌≤◌, ◌-◌, ◌+◌, [], length}
use Rattle.record_comtrade.specs.Texts.{texts_of}
use Rattle.record_comtrade.specs.Configs.{rates_from}
use Rattle.record_comtrade.proofs.rates.rates_of.Given as goal

-- what is left decides
abbrev pub invariant-loop-at : goal.invariant-loop-at
invariant-loop-at l = (length l.rates.items ≡ l.at) × (l.least ≤ 10000000000)
    × (rates_from (texts_of l.lines) (l.place + l.at) l.least l.rates.items (l.count - l.at) ≡ rates_from (texts_of l.lines) l.place 0 [] l.count)
