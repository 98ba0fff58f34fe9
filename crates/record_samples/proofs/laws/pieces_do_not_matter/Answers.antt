use Rattle.record_samples.proofs.RecordLaws.{calls_lead}
use Rattle.record_samples.proofs.laws.pieces_do_not_matter.Goals as goal

pub returns : goal.returns
returns _ = calls_lead
