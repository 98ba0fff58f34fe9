use Rattle.std.proofs.Common.{◌≡◌, ℕ, ◌<◌, length, get_or}
use Rattle.irig_frame.specs.Symbols.{width_of}
use Rattle.irig_simulated.specs.Seconds.{symbol_at}
use Rattle.irig_simulated.proofs.quiet.widths_of.Given as goal

-- the widths so far are those of the frame
abbrev pub invariant-loop-place : goal.invariant-loop-place
invariant-loop-place l = record {
  all : length l.widths_us ≡ 99;
  known : (k : ℕ) → k < l.place → get_or l.widths_us k 0 ≡ width_of (symbol_at l.frame k);
}
