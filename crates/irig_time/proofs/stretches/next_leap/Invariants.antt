use Rattle.irig_time.proofs.StretchLaws.{IsFirstOf}
use Rattle.irig_time.proofs.stretches.next_leap.Given as goal

-- the first of the leaps seen so far
abbrev pub invariant-loop-leap : goal.invariant-loop-leap
invariant-loop-leap l = IsFirstOf l.leaps l.from l.leap-index l.next
