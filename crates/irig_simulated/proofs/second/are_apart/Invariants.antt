use Rattle.std.proofs.Common.{◌≡◌, ℕ, suc, ◌<◌, true, false}
use Rattle.irig_sync.specs.Sync.{is_marker_symbol}
use Rattle.irig_simulated.specs.Seconds.{symbol_at}
use Rattle.irig_simulated.proofs.second.are_apart.Given as goal

-- if none of the pairs so far is of two markers, no marker of theirs stands before one
abbrev pub invariant-loop-place : goal.invariant-loop-place
invariant-loop-place l = l.meet ≡ false → (k : ℕ) → k < l.place
    → is_marker_symbol (symbol_at l.frame k) ≡ true → is_marker_symbol (symbol_at l.frame (suc k)) ≡ false
