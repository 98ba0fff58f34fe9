use Rattle.std.proofs.Common.{◌∙◌, sym}
use Rattle.irig_vote.specs.Vote.{vote_of}
use Rattle.irig_vote.proofs.CountLaws.{three_agree}
use Rattle.irig_vote.proofs.votes.vote_of_five.Goals as goal

pub returns : goal.returns
returns c = three_agree c.args.tells.now c.in-Claim.claim c.in-Claim.is (sym c.tells_claim.ensures ∙ c.if-tells_claim.true) (sym c.tells_claim-2.ensures ∙ c.if-tells_claim-2.true)

pub returns-2 : goal.returns-2
unfolding vote_of
returns-2 c = c.claim_told_by.ensures.value
