use Rattle.std.proofs.Common.{◌≡◌, ◌+◌, ◌-◌, ◌++◌}
use Rattle.record_table.specs.Titles.{bytes_of, names_from}
use Rattle.record_table.proofs.title.names_at.Given as goal

-- what is left follows the names so far
abbrev pub invariant-loop-at : goal.invariant-loop-at
invariant-loop-at l = bytes_of l.names.items ++ names_from (l.first + l.at) (l.fn.count - l.at) l.line ≡ names_from l.first l.fn.count l.line
