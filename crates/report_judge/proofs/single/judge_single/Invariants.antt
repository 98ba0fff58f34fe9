use Rattle.std.proofs.Common.{◌≡◌, false}
use Rattle.irig_device.specs.Watched.{device_of, has_failed}
use Rattle.report_judge.proofs.SingleLaws.{HasReadFrom}
use Rattle.report_judge.proofs.single.judge_single.Given as goal

-- what the device gave was read
abbrev pub invariant-loop-piece : goal.invariant-loop-piece
invariant-loop-piece g l =
    (has_failed l.input ≡ false)
    × HasReadFrom l.asked (g.I.Read.remaining (device_of l.initial.input)) (g.I.Read.remaining (device_of l.input)) l.part l._piece
