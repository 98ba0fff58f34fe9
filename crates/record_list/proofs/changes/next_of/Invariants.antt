use Rattle.std.proofs.Common.{◌-◌, ◌≡◌, ◌≤◌, List}
use Rattle.record_list.specs.declared.now.Now.{Now}
use Rattle.record_list.specs.Changes.{Said, said_until}
use Rattle.record_list.proofs.changes.next_of.Given as goal

-- nothing was said up to here
abbrev pub invariant-loop-now : goal.invariant-loop-now
invariant-loop-now l = ((others : Now → List Said) → said_until l.until_ns l.pulses l.fn.now others ≡ said_until l.until_ns l.pulses l.now others)
    × (l.fn.now.at_ns ≤ l.now.at_ns) × (l.now.is_begun ≡ l.fn.now.is_begun) × (l.now.newest_ns ≡ l.fn.now.newest_ns) × (l.now.end_ns ≡ l.fn.now.end_ns)

abbrev pub decreases-loop-now : goal.decreases-loop-now
decreases-loop-now l = l.until_ns - l.now.at_ns
