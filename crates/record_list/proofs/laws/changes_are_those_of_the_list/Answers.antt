use Rattle.record_list.proofs.ListLaws.{list-says}
use Rattle.record_list.proofs.laws.changes_are_those_of_the_list.Goals as goal

pub returns : goal.returns
returns _ = list-says
