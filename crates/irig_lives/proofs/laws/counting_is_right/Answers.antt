use Rattle.irig_lines.proofs.CountingLaws.{counts, wraps}
use Rattle.irig_lives.proofs.laws.counting_is_right.Goals as goal

pub returns-clause-count : goal.returns-clause-count
returns-clause-count _ = counts

pub returns-clause-wrap : goal.returns-clause-wrap
returns-clause-wrap _ = wraps
