use Rattle.record_vcd.proofs.FileLaws.{calls-lead}
use Rattle.record_vcd.proofs.laws.pieces_do_not_matter.Goals as goal

pub returns : goal.returns
returns _ = calls-lead
