use Rattle.std.proofs.Common.{◌≡◌, ◌-◌, ◌++◌}
use Rattle.record_table.specs.Titles.{bytes_of, numbered_from}
use Rattle.record_table.proofs.title.numbered.Given as goal

-- what is left follows the names so far
abbrev pub invariant-loop-at : goal.invariant-loop-at
invariant-loop-at l = bytes_of l.names.items ++ numbered_from l.at (l.fn.count - l.at) ≡ numbered_from 0 l.fn.count
