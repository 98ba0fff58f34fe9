use Rattle.report_log.proofs.PortWordLaws.{ok_is_truth, ok_is_truth_there}
use Rattle.report_log.proofs.laws.ok_words_are_true_claims.Goals as goal

pub returns-clause-word : goal.returns-clause-word
returns-clause-word _ = ok_is_truth

pub returns-clause-tick : goal.returns-clause-tick
returns-clause-tick _ = ok_is_truth_there
