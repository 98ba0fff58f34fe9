use Rattle.std.proofs.Common.{Some, None, arith}
use Rattle.std.proofs.lemmas.Grind.{common_steps}
use Rattle.irig_vote.proofs.CountLaws.{enough_told}
use Rattle.irig_vote.proofs.votes.claim_told_by.Goals as goal

pub returns-then-carriers-enough-clause-counts : goal.returns-then-carriers-enough-clause-counts
returns-then-carriers-enough-clause-counts c claim =
    enough_told c.args.enough c.args.ports.now (Some c.in-Claim.claim) claim c.requires (grind (arith, common_steps))

pub returns-clause-counts : goal.returns-clause-counts
returns-clause-counts c claim = enough_told c.args.enough c.args.ports.now None claim c.requires (grind (arith, common_steps))
