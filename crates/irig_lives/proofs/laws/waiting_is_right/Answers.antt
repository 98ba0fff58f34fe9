use Rattle.irig_timekeeper.proofs.WaitLaws.{counts_then, waits}
use Rattle.std.proofs.Common.{◌≡◌, ◌%◌, ◌^◌, Some, ap, arith}
use Rattle.irig_lines.specs.Steps.{wait_by}
use Rattle.irig_timekeeper.specs.Keeping.{Keeping, wait_at}
use Rattle.irig_timekeeper.specs.Life.{after_calls, device_of}
use Rattle.irig_timekeeper.proofs.LifeLaws.{begins}
use Rattle.irig_timekeeper.proofs.AgreedLaws.{vote_when_come, waits_for}
use Rattle.irig_lives.proofs.laws.waiting_is_right.Goals as goal

pub returns-clause-counts : goal.returns-clause-counts
returns-clause-counts _ pace e edge tick now more at order soon = counts_then pace e edge tick now more at order soon

pub returns-clause-waits : goal.returns-clause-waits
returns-clause-waits _ pace e edge tick now at order soon none = waits e edge tick now at order soon pace none

pub returns-clause-votes : goal.returns-clause-votes
returns-clause-votes _ made start now then edge calls vote order order' agree at ahead behind waited soon =
    let new = device_of made in
    let begun = begins made.rules made.clock made.table made.lines start made.fresh in
    let k : Keeping = after_calls new calls in
    let wait : wait_at k (now % 2 ^ 32) ≡ wait_by (now % 2 ^ 32) k.state.edge_us (Some vote) = ap (wait_by (now % 2 ^ 32) k.state.edge_us) agree in
    let long = waits_for new start begun now edge k.state.edge_us vote at ahead (omega (arith, behind)) in
    vote_when_come new start begun calls now then order order' (omega (arith, waited)) vote agree edge at ahead (omega (arith, behind)) (omega (arith, wait, long.0, waited)) soon
