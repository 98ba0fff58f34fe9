use Rattle.std.proofs.Common.{ap}
use Rattle.report_found.specs.declared.account.PortAccount.{PortAccount}
use Rattle.report_found.specs.Accounts.{port_of}
use Rattle.report_found.specs.Findings.{port_found}
use Rattle.report_found.proofs.GrowLaws.{list_more}
use Rattle.report_found.proofs.gather.push_open.Goals as goal

pub loop-port-preserved : goal.loop-port-preserved
loop-port-preserved c =
    let x = c.args.account.now in
    let r = c.args.reader in
    let i = c.loop-port.port in
    list_more (λ port. port_found r port (port_of port x).stretch) i _ _ _ _ c.loop-port.invariant c.in_ok-push_port.ensures
    (ap (λ (p : PortAccount). port_found r i p.stretch) c.port.ensures)
