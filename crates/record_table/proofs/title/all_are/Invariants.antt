use Rattle.std.proofs.Common.{◌≡◌, drop}
use Rattle.record_table.specs.Titles.{all_are, bytes_of}
use Rattle.record_table.proofs.title.all_are.Given as goal

-- what is left decides
abbrev pub invariant-loop-name : goal.invariant-loop-name
invariant-loop-name l = all_are (bytes_of (drop l.name-index l.names)) l.word ≡ all_are (bytes_of l.names) l.word
