use Rattle.std.proofs.Common.{◌≡◌, ℕ, ◌≤◌, ◌+◌, ◌-◌, List, ◌++◌, take, length}
use Rattle.record_single.specs.Heads.{to_find}
use Rattle.record_single.proofs.parts.Head.read.Given as goal

-- what was taken has found nothing
abbrev pub invariant-loop-count : goal.invariant-loop-count
invariant-loop-count l = (l.count ≤ length l.bytes)
    × (length l.self.line.items ≤ length l.fn.self.line.items + l.count)
    × ((more : List ℕ) → to_find l.fn.self (take l.count l.bytes ++ more) ≡ to_find l.self more)

abbrev pub decreases-loop-count : goal.decreases-loop-count
decreases-loop-count l = length l.bytes - l.count
