use Rattle.record_lines.proofs.OnLaws.{stays_end, stays_levels}
use Rattle.record_lines.proofs.laws.what_is_carried_stays_so.Goals as goal

pub returns-clause-levels : goal.returns-clause-levels
returns-clause-levels _ = stays_levels

pub returns-clause-end : goal.returns-clause-end
returns-clause-end _ = stays_end
