use Rattle.irig_timekeeper.proofs.CarriedLaws.{life_carries}
use Rattle.irig_lives.proofs.laws.votes_are_carried.Goals as goal

pub returns : goal.returns
returns _ = life_carries
