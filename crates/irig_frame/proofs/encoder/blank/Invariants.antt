use Rattle.std.proofs.Common.{◌≡◌, ℕ, ◌<◌, Some, slice_get, length}
use Rattle.irig_frame.specs.Encoder.{blank_at}
use Rattle.irig_frame.proofs.encoder.blank.Given as goal

abbrev pub invariant-loop-element : goal.invariant-loop-element
invariant-loop-element l = (length l.frame ≡ 100) × ((k : ℕ) → k < l.element → slice_get l.frame k ≡ Some (blank_at k))
