use Rattle.c_numbers.proofs.AgainstLaws.{against_truth}
use Rattle.c_numbers.proofs.laws.who_is_against_the_truth_is_untrue.Goals as goal

pub returns : goal.returns
returns c = against_truth
