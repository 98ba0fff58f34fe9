use Rattle.std.proofs.Common.{◌≡◌, ◌++◌}
use Rattle.report_found.specs.Accounts.{port_of}
use Rattle.report_found.specs.Findings.{lists_below, port_found}
use Rattle.report_found.proofs.gather.push_open.Given as goal

abbrev pub invariant-loop-port : goal.invariant-loop-port
invariant-loop-port l =
    l.findings.items ≡ l.initial.findings.items ++ lists_below (λ port. port_found l.reader port (port_of port l.account).stretch) l.port
