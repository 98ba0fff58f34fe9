use Rattle.std.proofs.Common.{◌≡◌, None, drop}
use Rattle.irig_lines.specs.Steps.{first_candidate}
use Rattle.irig_lines.proofs.lines.first_candidate.Given as goal

-- what is left decides
abbrev pub invariant-loop-x : goal.invariant-loop-x
invariant-loop-x l = first_candidate l.reach_us l.f l.all l.all None ≡ first_candidate l.reach_us l.f l.all (drop l.x-index l.all) l.so_far
