use Rattle.irig_plant.proofs.PortLaws.{broken_by_ports, kept_by_ports}
use Rattle.irig_plant.proofs.laws.broken_ports.Goals as goal

pub returns-clause-broken : goal.returns-clause-broken
returns-clause-broken _ = broken_by_ports

pub returns-clause-kept : goal.returns-clause-kept
returns-clause-kept _ = kept_by_ports
