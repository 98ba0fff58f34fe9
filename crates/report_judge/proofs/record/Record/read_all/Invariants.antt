use Rattle.std.proofs.Common.{◌≡◌, false}
use Rattle.irig_device.specs.Watched.{device_of, has_failed}
use Rattle.report_judge.proofs.RecordLaws.{GoesOn, HasTaken}
use Rattle.report_judge.proofs.record.Record.read_all.Given as goal

-- what the device gave was read
abbrev pub invariant-loop-piece : goal.invariant-loop-piece
invariant-loop-piece g l =
    (has_failed l.input ≡ false)
    × HasTaken (GoesOn l.fn.self l.self) (g.I.Read.remaining (device_of l.initial.input)) (g.I.Read.remaining (device_of l.input)) l._piece
