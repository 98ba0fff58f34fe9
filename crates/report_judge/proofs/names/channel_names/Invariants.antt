use Rattle.std.proofs.Common.{◌≡◌, ◌+◌, length}
use Rattle.record_comtrade.specs.Reads.{value_of}
use Rattle.report_judge.specs.Channels.{texts_of}
use Rattle.report_judge.specs.Records.{names_with}
use Rattle.report_judge.proofs.names.channel_names.Given as goal

-- those so far
abbrev pub invariant-loop-place : goal.invariant-loop-place
invariant-loop-place l =
    (texts_of l.names.items ≡ names_with (value_of l.config) l.place) × (length l.names.items ≡ l.config.counts.digitals + l.place)
