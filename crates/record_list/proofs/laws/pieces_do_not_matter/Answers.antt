use Rattle.record_list.proofs.ListLaws.{calls-lead}
use Rattle.record_list.proofs.laws.pieces_do_not_matter.Goals as goal

pub returns : goal.returns
returns _ = calls-lead
