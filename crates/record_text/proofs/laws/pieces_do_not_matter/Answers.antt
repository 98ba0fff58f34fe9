use Rattle.record_text.proofs.WordLaws.{words-append}
use Rattle.record_text.proofs.laws.pieces_do_not_matter.Goals as goal

pub returns : goal.returns
returns _ = words-append
