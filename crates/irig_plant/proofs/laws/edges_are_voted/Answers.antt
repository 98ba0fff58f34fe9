use Rattle.irig_plant.proofs.CourseLaws.{voted_by_test, test_by_voted, restarted_by_test, test_by_restarted}
use Rattle.irig_plant.proofs.laws.edges_are_voted.Goals as goal

pub returns-clause-voted : goal.returns-clause-voted
returns-clause-voted _ = λ s r ev i. (voted_by_test s r ev i, test_by_voted s r ev i)

pub returns-clause-restarted : goal.returns-clause-restarted
returns-clause-restarted _ = λ r ev i. (restarted_by_test r ev i, test_by_restarted r ev i)
