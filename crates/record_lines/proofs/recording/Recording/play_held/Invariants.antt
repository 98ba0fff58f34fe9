use Rattle.std.proofs.Common.{◌≡◌, ℕ, List, ◌≤◌, length}
use Rattle.irig_timekeeper.specs.Life.{Call}
use Rattle.irig_timekeeper.specs.Lived.{MadeOf}
use Rattle.record_pulses.specs.declared.edge.Edge.{Edge}
use Rattle.record_lines.specs.Channels.{AreAsSteady}
use Rattle.record_lines.specs.Recordings.{IsPlayedTo}
use Rattle.record_lines.proofs.recording.Recording.play_held.Given as goal

abbrev pub invariant-loop-at : goal.invariant-loop-at
invariant-loop-at g l =
    (l.self.held ≡ l.fn.self.held) × (l.at-end ≡ length l.fn.self.held.changes.items)
    × ((made : MadeOf) (start : ℕ) (seen played : ℕ → List Edge) (calls : List Call)
    → IsPlayedTo l.fn.self l.fn.self.held.played made start seen played calls
    → (later : ℕ → List Edge) × (more : List Call) × IsPlayedTo l.self l.at made start seen later more)
    × AreAsSteady l.fn.self.channels l.self.channels × (l.self.now_ns ≡ l.fn.self.now_ns)
    × (l.self.end_us ≡ l.fn.self.end_us)
    × (l.self.lines ≡ l.fn.self.lines)
    × (l.fn.self.receiver.ticked_us ≤ l.self.receiver.ticked_us)
