use Rattle.irig_plant.proofs.HealingLaws.{log_true_if_clean, kept_between}
use Rattle.irig_plant.proofs.laws_of_edges.clean_ticks_are_enough.Goals as goal

pub returns-clause-entries : goal.returns-clause-entries
returns-clause-entries _ = log_true_if_clean

pub returns-clause-kept : goal.returns-clause-kept
returns-clause-kept _ = kept_between
