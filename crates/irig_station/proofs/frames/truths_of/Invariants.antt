use Rattle.std.proofs.Common.{◌≡◌, map, take}
use Rattle.irig_station.proofs.frames.truths_of.Given as goal

abbrev pub invariant-loop-line : goal.invariant-loop-line
invariant-loop-line l = l.frames.items ≡ map (λ line. line.truth) (take l.line-index l.lines)
