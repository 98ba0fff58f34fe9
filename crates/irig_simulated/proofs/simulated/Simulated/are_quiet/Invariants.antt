use Rattle.std.proofs.Common.{ℕ, ◌<◌}
use Rattle.irig_simulated.specs.QuietLines.{IsQuietOn}
use Rattle.irig_simulated.proofs.simulated.Simulated.are_quiet.Given as goal

abbrev pub invariant-loop-line : goal.invariant-loop-line
invariant-loop-line g l = (k : ℕ) → k < l.line → IsQuietOn l.self l.second k
