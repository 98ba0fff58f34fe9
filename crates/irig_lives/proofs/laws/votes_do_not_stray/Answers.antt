use Rattle.irig_timekeeper.proofs.StrayLaws.{never_strays}
use Rattle.irig_lives.proofs.laws.votes_do_not_stray.Goals as goal

pub returns : goal.returns
returns _ t edges made start calls lives = never_strays t edges made start calls lives
