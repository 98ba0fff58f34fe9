use Rattle.std.proofs.lemmas.List.Elements.{All-contains}
use Rattle.irig_plant.specs.Schedule.{log_of}
use Rattle.irig_plant.proofs.HealingLaws.{log_rests, HasItsVote, log_has_votes}
use Rattle.irig_plant.proofs.laws_of_edges.announcements_rest_on_a_vote.Goals as goal

pub returns-clause-rests : goal.returns-clause-rests
returns-clause-rests _ = log_rests

pub returns-clause-voted : goal.returns-clause-voted
returns-clause-voted _ = λ s ev e logged. (All-contains (HasItsVote s ev) (log_of s ev) e (log_has_votes s ev) logged).vote
