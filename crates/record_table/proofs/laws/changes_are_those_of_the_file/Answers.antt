use Rattle.record_table.proofs.FileLaws.{file-says}
use Rattle.record_table.proofs.laws.changes_are_those_of_the_file.Goals as goal

pub returns : goal.returns
returns _ = file-says
