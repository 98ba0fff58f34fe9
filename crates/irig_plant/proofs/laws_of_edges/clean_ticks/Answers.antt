use Rattle.irig_plant.proofs.OwnEdge.{clean_by_ports, clean_by_vote, clean_unlied, unclean_majority}
use Rattle.irig_plant.proofs.laws_of_edges.clean_ticks.Goals as goal

pub returns-clause-ports : goal.returns-clause-ports
returns-clause-ports _ = clean_by_ports

pub returns-clause-vote : goal.returns-clause-vote
returns-clause-vote _ = clean_by_vote

pub returns-clause-clean : goal.returns-clause-clean
returns-clause-clean _ = clean_unlied

pub returns-clause-unclean : goal.returns-clause-unclean
returns-clause-unclean _ = unclean_majority
