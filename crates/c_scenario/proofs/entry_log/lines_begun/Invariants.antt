use Rattle.std.proofs.Common.{length, drop, ◌-◌, ◌≡◌, ◌+◌, ◌≤◌}
use Rattle.c_scenario.specs.Entries.{begun}
use Rattle.c_scenario.proofs.entry_log.lines_begun.Given as goal

abbrev pub invariant-loop-lines : goal.invariant-loop-lines
invariant-loop-lines l =
    (l.lines ≤ length l.starts) × (begun l.starts l.count ≡ l.lines + begun (drop l.lines l.starts) l.count)

abbrev pub decreases-loop-lines : goal.decreases-loop-lines
decreases-loop-lines l = length l.starts - l.lines
