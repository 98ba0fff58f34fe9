use Rattle.irig_reader.proofs.LifeLaws.{true_life, healed}
use Rattle.irig_reader.proofs.laws.true_lives_are_true.Goals as goal

pub returns-clause-second : goal.returns-clause-second
returns-clause-second _ t n rules table r told before u sound knows clean says = true_life t rules table sound knows n r told before u clean says

pub returns-clause-healed : goal.returns-clause-healed
returns-clause-healed _ t n rules table r told before earlier u sound knows marked clean voted says = healed t rules table sound knows n r earlier marked told before u clean voted says
