use Rattle.std.proofs.Common.{◌≡◌, ◌*◌, ◌≤◌, ℕ, List}
use Rattle.irig_timekeeper.specs.Life.{Call}
use Rattle.irig_timekeeper.specs.Lived.{MadeOf}
use Rattle.record_lines.specs.Receivers.{IsReceiverOf}
use Rattle.record_lines.specs.Passing.{HasTicked}
use Rattle.record_lines.proofs.receiver.Receiver.tick_until.Given as goal

-- ticks came as they were due, a millisecond apart or more, and told no second
abbrev pub invariant-loop : goal.invariant-loop
invariant-loop g l =
    (l.counter * 1000 ≤ l.self.due_us)
    × (l.self.now_us ≤ l.fn.time_us)
    × (l.self.clock ≡ l.fn.self.clock)
    × ((made : MadeOf) (start : ℕ) (calls : List Call) → IsReceiverOf l.fn.self made start calls → (times : List ℕ) × HasTicked l.fn.self l.self made start calls times)
    × (l.fn.self.ticked_us ≤ l.self.ticked_us)
