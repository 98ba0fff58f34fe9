use Rattle.std.proofs.Common.{◌≡◌, ℕ, ◌<◌, false}
use Rattle.irig_simulated.specs.Seconds.{symbol_at}
use Rattle.irig_simulated.proofs.second.are_same.Given as goal

-- if none of the elements so far differs, they are the same
abbrev pub invariant-loop-place : goal.invariant-loop-place
invariant-loop-place l = l.differ ≡ false → (k : ℕ) → k < l.place → symbol_at l.one k ≡ symbol_at l.other k
