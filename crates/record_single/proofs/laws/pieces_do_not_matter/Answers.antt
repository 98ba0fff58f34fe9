use Rattle.record_single.proofs.HeadLaws.{calls_lead}
use Rattle.record_single.proofs.laws.pieces_do_not_matter.Goals as goal

pub returns : goal.returns
returns _ = calls_lead
