use Rattle.std.proofs.Common.{◌≡◌, ◌++◌, ◌∙◌, ℕ, List, ap, rules}
use Rattle.report_found.specs.Findings.{lists_below}
use Rattle.report_found.proofs.GrowLaws.{list_more, list_then}
use Rattle.report_lanes.specs.declared.lane.Lane.{Lane}
use Rattle.report_lanes.specs.Lanes.{if_some, open_port}
use Rattle.report_lanes.proofs.gather.push_open.Goals as goal

pub loop-port-preserved : goal.loop-port-preserved
loop-port-preserved c =
    let x = c.args.reader.now in
    list_more (λ port. if_some (open_port port x)) c.loop-port.port _ _ _ _ c.loop-port.invariant c.in_ok-push-2.ensures (ap if_some c.port.ensures)

pub returns : goal.returns
returns c =
    let x = c.args.reader.now in
    let of_ports : ℕ → List Lane = λ port. if_some (open_port port x) in
    let end : c.loop-port.port ≡ c.args.ports = search rules in
    list_then c.args.lanes.now.items c.push.new.lanes.items c.loop-port.lanes.items (if_some x.stood) (lists_below of_ports c.args.ports)
    c.in_ok-push.ensures
    (c.loop-port.invariant ∙ ap (λ n. c.push.new.lanes.items ++ lists_below of_ports n) end)
