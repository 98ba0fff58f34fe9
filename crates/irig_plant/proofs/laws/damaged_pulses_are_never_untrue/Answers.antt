use Rattle.irig_plant.proofs.DamageLaws.{damaged_told, damaged_is_not_untrue, carried_is_damaged}
use Rattle.irig_plant.proofs.laws.damaged_pulses_are_never_untrue.Goals as goal

pub returns-clause-told : goal.returns-clause-told
returns-clause-told _ = damaged_told

pub returns-clause-port : goal.returns-clause-port
returns-clause-port _ = damaged_is_not_untrue

pub returns-clause-damaged : goal.returns-clause-damaged
returns-clause-damaged _ = carried_is_damaged
