use Rattle.std.proofs.Common.{◌≡◌, ℕ, ◌≤◌, ◌-◌, List, ◌++◌, take, length}
use Rattle.record_table.specs.Heads.{head_end}
use Rattle.record_table.proofs.head.Head.read.Given as goal

-- what was taken has led here
abbrev pub invariant-loop-count : goal.invariant-loop-count
invariant-loop-count l = (l.count ≤ length l.bytes)
    × ((more : List ℕ) → head_end l.fn.self (take l.count l.bytes ++ more) ≡ head_end l.self more)

abbrev pub decreases-loop-count : goal.decreases-loop-count
decreases-loop-count l = length l.bytes - l.count
