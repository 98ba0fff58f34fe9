use Rattle.std.proofs.Common.{◌≡◌, ◌++◌, ◌∙◌, ℕ, List, ap, rules}
use Rattle.irig_scene.proofs.LogLaws.{on_ok}
use Rattle.report_found.specs.Findings.{lists_below}
use Rattle.report_found.proofs.GrowLaws.{list_more, list_then}
use Rattle.report_lanes.specs.declared.lane.Lane.{Lane}
use Rattle.report_lanes.specs.Lanes.{if_some, ended, open_port, stood_at, told_at, mark_at}
use Rattle.report_lanes.proofs.gather.push_ended.Goals as goal

pub loop-port-preserved : goal.loop-port-preserved
loop-port-preserved c =
    let x = c.args.reader.now in
    let t = c.args.tick.now in
    let i = c.loop-port.port in
    list_more (λ port. if_some (ended (open_port port x) (told_at port t))) i _ _ _ _ c.loop-port.invariant c.in_ok-push-2.ensures
    (ap if_some (c.ended-in-loop-port.ensures ∙ ap (λ o. ended o c.told_at.result) c.port.ensures ∙ ap (ended (open_port i x)) c.told_at.ensures))

pub returns : goal.returns
returns c =
    let x = c.args.reader.now in
    let t = c.args.tick.now in
    let old = c.args.lanes.now.items in
    let mid = c.push.new.lanes.items in
    let of_ports : ℕ → List Lane = λ port. if_some (ended (open_port port x) (told_at port t)) in
    let end : c.loop-port.port ≡ c.args.ports = search rules in
    on_ok c.push-2.result _ _ (λ pushed.
    list_then old mid _ (if_some (ended x.stood (stood_at t))) (lists_below of_ports c.args.ports ++ if_some (mark_at t))
    (c.in_ok-push.ensures ∙ ap (λ o. old ++ if_some o) (c.ended.ensures ∙ ap (ended x.stood) c.stood_at.ensures))
    (list_then mid c.loop-port.lanes.items _ (lists_below of_ports c.args.ports) (if_some (mark_at t))
    (c.loop-port.invariant ∙ ap (λ n. mid ++ lists_below of_ports n) end)
    (pushed ∙ ap (λ o. c.loop-port.lanes.items ++ if_some o) c.mark_at.ensures))) c.push-2.ensures
