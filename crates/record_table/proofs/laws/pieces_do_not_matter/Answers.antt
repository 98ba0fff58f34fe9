use Rattle.record_table.proofs.FileLaws.{calls-lead}
use Rattle.record_table.proofs.laws.pieces_do_not_matter.Goals as goal

pub returns : goal.returns
returns _ = calls-lead
