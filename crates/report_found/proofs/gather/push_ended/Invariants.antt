use Rattle.std.proofs.Common.{◌≡◌, ◌++◌}
use Rattle.report_found.specs.Accounts.{port_of}
use Rattle.report_found.specs.Findings.{lists_below, port_found}
use Rattle.report_found.specs.Stretches.{ended_by}
use Rattle.report_found.specs.Ticks.{kind_at}
use Rattle.report_found.proofs.gather.push_ended.Given as goal

abbrev pub invariant-loop-port : goal.invariant-loop-port
invariant-loop-port l =
    l.findings.items ≡ l.initial.findings.items ++ lists_below (λ port. port_found l.reader port (ended_by (port_of port l.account).stretch (kind_at port l.tick))) l.port
