use Rattle.std.proofs.Common.{◌≡◌, length}
use Rattle.report_judge.specs.Channels.{upto}
use Rattle.report_judge.proofs.channels.all_of.Given as goal

-- all so far
abbrev pub invariant-loop-place : goal.invariant-loop-place
invariant-loop-place l = (length l.places.items ≡ l.place) × (l.places.items ≡ upto l.place)
