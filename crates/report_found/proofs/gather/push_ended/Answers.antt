use Rattle.std.proofs.Common.{◌∙◌, ap}
use Rattle.report_found.specs.declared.account.PortAccount.{PortAccount}
use Rattle.report_found.specs.Accounts.{port_of}
use Rattle.report_found.specs.Findings.{port_found}
use Rattle.report_found.specs.Stretches.{ended_by}
use Rattle.report_found.specs.Ticks.{kind_at}
use Rattle.report_found.proofs.GrowLaws.{list_more}
use Rattle.report_found.proofs.gather.push_ended.Goals as goal

pub loop-port-preserved : goal.loop-port-preserved
loop-port-preserved c =
    let x = c.args.account.now in
    let t = c.args.tick.now in
    let i = c.loop-port.port in
    let ended = c.ended_by-ended.ensures ∙ ap (λ (p : PortAccount). ended_by p.stretch c.kind.result) c.port.ensures ∙ ap (ended_by (port_of i x).stretch) c.kind.ensures in
    list_more (λ port. port_found t.entry.reader port (ended_by (port_of port x).stretch (kind_at port t))) i _ _ _ _ c.loop-port.invariant c.in_ok-push_port.ensures
    (ap (port_found t.entry.reader i) ended)
