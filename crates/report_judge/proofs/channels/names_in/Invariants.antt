use Rattle.std.proofs.Common.{◌≡◌, ◌+◌, ◌≤◌, drop}
use Rattle.report_judge.specs.Channels.{names_in}
use Rattle.report_judge.proofs.channels.names_in.Given as goal

-- what is left decides
abbrev pub invariant-loop-byte : goal.invariant-loop-byte
invariant-loop-byte l = (l.commas + names_in (drop l.byte-index l.channels) ≡ names_in l.channels) × (l.commas ≤ l.byte-index)
