use Rattle.std.proofs.Common.{◌≡◌, ℕ, ◌≤◌, ◌-◌, List, ◌++◌, take, length}
use Rattle.record_comtrade.specs.Texts.{lines_to_come}
use Rattle.record_comtrade.proofs.reading.ConfigText.read.Given as goal

-- what was taken has led here
abbrev pub invariant-loop-count : goal.invariant-loop-count
invariant-loop-count l = (l.count ≤ length l.bytes)
    × ((more : List ℕ) → lines_to_come l.fn.self (take l.count l.bytes ++ more) ≡ lines_to_come l.self more)

abbrev pub decreases-loop-count : goal.decreases-loop-count
decreases-loop-count l = length l.bytes - l.count
