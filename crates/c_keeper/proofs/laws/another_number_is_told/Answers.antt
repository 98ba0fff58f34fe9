use Rattle.c_keeper.proofs.ApartLaws.{apart_told}
use Rattle.c_keeper.proofs.laws.another_number_is_told.Goals as goal

pub returns : goal.returns
returns c = apart_told
