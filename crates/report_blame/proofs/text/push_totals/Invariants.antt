use Rattle.std.proofs.Common.{◌≡◌, ◌++◌, string_bytes}
use Rattle.report_found.specs.Accounts.{port_of}
use Rattle.report_found.specs.Findings.{lists_below}
use Rattle.report_blame.specs.Text.{port_totals_line}
use Rattle.report_blame.proofs.text.push_totals.Given as goal

abbrev pub invariant-loop-port : goal.invariant-loop-port
invariant-loop-port l =
    string_bytes l.text ≡ string_bytes l.initial.text ++ lists_below (λ port. port_totals_line l.lines l.name port (port_of port l.account)) l.port
