use Rattle.irig_reader.proofs.TrueSteps.{step_true}
use Rattle.irig_reader.proofs.laws.true_votes_keep_to_the_truth.Goals as goal

pub returns-clause-stands : goal.returns-clause-stands
returns-clause-stands c t n rules table state vote sound true_table at voted = (step_true t n rules table state vote sound true_table at voted).state

pub returns-clause-second : goal.returns-clause-second
returns-clause-second c t n rules table state vote u sound true_table at voted = (step_true t n rules table state vote sound true_table at voted).says u

pub returns-clause-jump : goal.returns-clause-jump
returns-clause-jump c t n rules table state vote sound true_table at voted = (step_true t n rules table state vote sound true_table at voted).calm.jump

pub returns-clause-range_end : goal.returns-clause-range_end
returns-clause-range_end c t n rules table state vote sound true_table at voted = (step_true t n rules table state vote sound true_table at voted).calm.range_end
