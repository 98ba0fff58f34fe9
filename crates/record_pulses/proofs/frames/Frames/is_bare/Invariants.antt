use Rattle.std.proofs.Common.{◌≡◌, ◌-◌}
use Rattle.record_pulses.specs.Views.{are_clear}
use Rattle.record_pulses.proofs.frames.Frames.is_bare.Given as goal

abbrev pub invariant-loop-element : goal.invariant-loop-element
invariant-loop-element l = l.is_bare ≡ are_clear l.self.whole (l.element - 50)
