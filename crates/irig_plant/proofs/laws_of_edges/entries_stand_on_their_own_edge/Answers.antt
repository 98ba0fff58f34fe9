use Rattle.irig_plant.proofs.OwnEdge.{true_by_own_edge, kept_is_clean}
use Rattle.irig_plant.proofs.laws_of_edges.entries_stand_on_their_own_edge.Goals as goal

pub returns-clause-entries : goal.returns-clause-entries
returns-clause-entries _ = true_by_own_edge

pub returns-clause-few : goal.returns-clause-few
returns-clause-few _ = kept_is_clean
