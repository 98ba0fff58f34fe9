use Rattle.record_samples.proofs.RecordLaws.{file_says}
use Rattle.record_samples.proofs.laws.changes_are_those_of_the_file.Goals as goal

pub returns : goal.returns
returns _ = file_says
