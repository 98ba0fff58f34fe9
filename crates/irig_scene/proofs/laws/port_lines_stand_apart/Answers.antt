use Rattle.irig_scene.proofs.NameLaws.{are_names_named}
use Rattle.irig_scene.proofs.PortLineLaws.{without_ports, ports_are_one, last_is_none}
use Rattle.irig_scene.proofs.laws.port_lines_stand_apart.Goals as goal

pub returns-clause-without : goal.returns-clause-without
returns-clause-without _ = without_ports

pub returns-clause-one : goal.returns-clause-one
returns-clause-one _ = λ names e named. ports_are_one names e (are_names_named names named)

pub returns-clause-last : goal.returns-clause-last
returns-clause-last _ = λ x refused named. last_is_none x refused (are_names_named x.plan.names named)
