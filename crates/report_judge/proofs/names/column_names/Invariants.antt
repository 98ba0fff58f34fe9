use Rattle.std.proofs.Common.{◌≡◌, ◌++◌, drop, length}
use Rattle.record_table.specs.Titles.{bytes_of}
use Rattle.report_judge.specs.Channels.{texts_of}
use Rattle.report_judge.proofs.names.column_names.Given as goal

-- those so far, and those that are left
abbrev pub invariant-loop-column : goal.invariant-loop-column
invariant-loop-column l =
    (texts_of l.names.items ++ bytes_of (drop l.column-index l.columns) ≡ bytes_of l.columns) × (length l.names.items ≡ l.column-index)
