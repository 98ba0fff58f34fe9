use Rattle.std.proofs.Common.{ap}
use Rattle.report_found.specs.declared.account.PortAccount.{PortAccount}
use Rattle.report_found.specs.Accounts.{port_of}
use Rattle.report_blame.specs.Text.{port_totals_line}
use Rattle.report_found.proofs.GrowLaws.{list_more}
use Rattle.report_blame.proofs.text.push_totals.Goals as goal

pub loop-port-preserved : goal.loop-port-preserved
loop-port-preserved c =
    let name = c.args.name.now in
    let x = c.args.account.now in
    let i = c.loop-port.port in
    list_more (λ port. port_totals_line c.args.lines.now name port (port_of port x)) i _ _ _ _ c.loop-port.invariant c.in_ok-push_port_totals.ensures
    (ap (λ (p : PortAccount). port_totals_line c.args.lines.now name i p) c.port.ensures)
