use Rattle.std.proofs.Common.{◌≡◌, ◌-◌, ◌^◌}
use Rattle.report_judge.specs.Hearings.{TakesOn}
use Rattle.report_judge.proofs.hearing.Hearing.take_seconds.Given as goal

-- what was taken so far
abbrev pub invariant-loop-second : goal.invariant-loop-second
invariant-loop-second l =
    TakesOn l.fn.self l.self × (l.self.recording.now_ns ≡ l.fn.self.recording.now_ns) × (l.self.recording.end_us ≡ l.fn.self.recording.end_us)
    × (l.self.as_json ≡ l.fn.self.as_json)

-- each second takes a tick, and time ends
abbrev pub decreases-loop-second : goal.decreases-loop-second
decreases-loop-second l = 2 ^ 56 - l.self.recording.receiver.ticked_us
