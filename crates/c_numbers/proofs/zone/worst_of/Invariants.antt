use Rattle.std.proofs.Common.{◌≡◌, drop}
use Rattle.std.specs.Prelude.{max}
use Rattle.c_numbers.specs.Standings.{worst_of}
use Rattle.c_numbers.proofs.zone.worst_of.Given as goal

-- the worst so far, and of what is left
abbrev pub invariant-loop-frame : goal.invariant-loop-frame
invariant-loop-frame l = max l.worst (worst_of (drop l.frame-index l.sent)) ≡ worst_of l.sent
