use Rattle.irig_vote.proofs.CountLaws.{few_tell_others}
use Rattle.irig_vote.proofs.laws.few_others.Goals as goal

pub returns : goal.returns
returns _ = few_tell_others
