use Rattle.std.proofs.Common.{◌≡◌, false}
use Rattle.irig_device.specs.Watched.{device_of, has_failed}
use Rattle.report_judge.proofs.RecordLaws.{HasReadConfig, HasTaken}
use Rattle.report_judge.proofs.record.read_config.Given as goal

-- what the device gave was read
abbrev pub invariant-loop-piece : goal.invariant-loop-piece
invariant-loop-piece g l =
    (has_failed l.input ≡ false)
    × HasTaken (HasReadConfig l.text) (g.I.Read.remaining (device_of l.initial.input)) (g.I.Read.remaining (device_of l.input)) l._piece
