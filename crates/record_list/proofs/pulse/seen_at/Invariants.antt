use Rattle.std.proofs.Common.{◌≡◌, ◌<◌, ◌≤◌, ℕ, drop}
use Rattle.record_list.specs.Pulses.{high_at, high_from}
use Rattle.record_list.proofs.pulse.seen_at.Given as goal

-- up to the next time what is left decides
abbrev pub invariant-loop-pulse : goal.invariant-loop-pulse
invariant-loop-pulse l = (l.at_ns < l.look.next_ns) × (l.look.next_ns ≤ l.end_ns)
    × ((time : ℕ) → l.at_ns ≤ time → time < l.look.next_ns → high_from l.look.high (drop l.pulse-index l.pulses) time ≡ high_at l.pulses time)
