use Rattle.irig_plant.proofs.TableLaws.{true_by_test, test_by_true}
use Rattle.irig_plant.proofs.laws.true_tables.Goals as goal

pub returns : goal.returns
returns c = λ t table. (true_by_test t table, test_by_true t table)
