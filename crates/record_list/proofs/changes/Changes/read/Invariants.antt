use Rattle.std.proofs.Common.{◌≡◌, ℕ, ◌≤◌, ◌-◌, List, ◌++◌, take, length, None}
use Rattle.record_list.specs.Lists.{to_come}
use Rattle.record_list.proofs.changes.Changes.read.Given as goal

-- what was taken has said nothing
abbrev pub invariant-loop-count : goal.invariant-loop-count
invariant-loop-count l = (l.count ≤ length l.bytes) × (l.self.refusal ≡ None) × (l.fn.self.here.at_ns ≤ l.self.here.at_ns)
    × ((more : List ℕ) → to_come l.fn.self (take l.count l.bytes ++ more) ≡ to_come l.self more)

abbrev pub decreases-loop-count : goal.decreases-loop-count
decreases-loop-count l = length l.bytes - l.count
