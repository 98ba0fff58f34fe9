use Rattle.std.proofs.Common.{◌≡◌, ◌≤◌, ◌-◌, false}
use Rattle.irig_device.specs.Watched.{device_of, has_failed}
use Rattle.report_run.proofs.RunLaws.{HasRun}
use Rattle.report_run.proofs.run.play_lines.Given as goal

abbrev pub invariant-loop-input : goal.invariant-loop-input
invariant-loop-input g l =
    (1 ≤ l.number)
    × (l.number ≤ 1000001)
    × (has_failed l.output ≡ false)
    × (has_failed l.input ≡ false)
    × HasRun g.T.Play.language g.T.Play.entries (g.T.Play.stands_for l.asked) g.T.Play.counts (g.T.Play.texts l.asked) l.player l.starts.items (g.R.Read.remaining (device_of l.initial.input)) (g.R.Read.remaining (device_of l.input)) (g.W.Write.contents (device_of l.initial.output)) (g.W.Write.contents (device_of l.output)) l.number

abbrev pub decreases-loop-input : goal.decreases-loop-input
decreases-loop-input g l = 1000002 - l.number
