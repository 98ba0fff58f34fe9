use Rattle.std.proofs.Common.{◌≡◌, drop}
use Rattle.report_judge.specs.Channels.{is_in}
use Rattle.report_judge.proofs.channels.is_in.Given as goal

-- what is left decides
abbrev pub invariant-loop-other : goal.invariant-loop-other
invariant-loop-other l = is_in (drop l.other-index l.places) l.place ≡ is_in l.places l.place
