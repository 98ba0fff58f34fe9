use Rattle.irig_vote.specs.declared.redundancy.Redundancy.TheVariants.{Three, Five}
use Rattle.irig_vote.proofs.CountLaws.{vote_counts}
use Rattle.irig_vote.proofs.votes.vote.Goals as goal

pub returns-in-Three-clause-counts : goal.returns-in-Three-clause-counts
returns-in-Three-clause-counts c = λ claim. rw (c.vote_of_three.ensures, c.in-Three.is) (vote_counts c.args.tells.now Three claim)

pub returns-in-Five-clause-counts : goal.returns-in-Five-clause-counts
returns-in-Five-clause-counts c = λ claim. rw (c.vote_of_five.ensures, c.in-Five.is) (vote_counts c.args.tells.now Five claim)
