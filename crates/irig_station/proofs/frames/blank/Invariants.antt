use Rattle.std.proofs.Common.{◌≡◌, ◌<◌, ◌≤◌, ℕ, length, get_or}
use Rattle.irig_frame.specs.declared.symbol.Symbol.TheVariants.{Zero}
use Rattle.irig_witness.specs.TrueFrames.{blank_at}
use Rattle.irig_station.proofs.frames.blank.Given as goal

-- the elements so far are those of the blank frame, the others zeros
abbrev pub invariant-loop-element : goal.invariant-loop-element
invariant-loop-element l =
    (length l.frame ≡ 100) × ((k : ℕ) → k < l.element → get_or l.frame k Zero ≡ blank_at k)
    × ((k : ℕ) → l.element ≤ k → k < 100 → get_or l.frame k Zero ≡ Zero)
