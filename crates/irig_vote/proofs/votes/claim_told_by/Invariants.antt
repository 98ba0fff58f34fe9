use Rattle.std.proofs.Common.{◌≡◌, ◌-◌, drop}
use Rattle.irig_vote.specs.Vote.{first_told}
use Rattle.irig_vote.proofs.votes.claim_told_by.Given as goal

-- what is left decides
abbrev pub invariant-loop-told : goal.invariant-loop-told
invariant-loop-told l = first_told (l.enough - 1) l.ports l.ports ≡ first_told (l.enough - 1) l.ports (drop l.told-index l.ports)
