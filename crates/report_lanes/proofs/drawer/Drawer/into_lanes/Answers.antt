use Rattle.std.proofs.Common.{◌≡◌, ◌++◌, ◌∙◌, ℕ, List, [], length, get_or, ap, sym, arith}
use Rattle.std.proofs.lemmas.List.{get_or_default}
use Rattle.std.specs.Prelude.{slice_index_or, vec_len}
use Rattle.report_found.specs.Findings.{lists_below}
use Rattle.report_found.proofs.GrowLaws.{list_more}
use Rattle.report_lanes.specs.declared.lane.Lane.{Lane}
use Rattle.report_lanes.specs.Lanes.{open_of, open_lanes}
use Rattle.irig_station_scene.specs.StationScenes.{newest_first}
use Rattle.report_lanes.specs.DeviceScenes.{ended_by_entries}
use Rattle.report_lanes.specs.Scenes.{all_ended}
use Rattle.report_lanes.proofs.DeviceLaws.{open_is_of_devices}
use Rattle.report_lanes.proofs.EventLaws.{open_is}
use Rattle.report_lanes.proofs.drawer.Drawer.into_lanes.Goals as goal

pub loop-reader-preserved : goal.loop-reader-preserved
loop-reader-preserved c =
    let d = c.args.self in
    let items = c.deref-reader-items.result.now in
    let i = c.loop-reader.reader-index in
    list_more (λ r. open_lanes d.ports (slice_index_or d.readers.items r (open_of []))) i _ _ _ _ c.loop-reader.invariant c.in_ok-push_open.ensures
    (ap (open_lanes d.ports) (get_or_default items i _ (open_of []) c.loop-reader-test.true ∙ ap (λ xs. get_or xs i (open_of [])) c.deref-reader-items.ensures.value))

pub returns-clause-readers : goal.returns-clause-readers
returns-clause-readers c = λ x at.
    let d = c.args.self in
    let of_readers : ℕ → List Lane = λ r. open_lanes d.ports (slice_index_or d.readers.items r (open_of [])) in
    let items = c.deref-reader-items.result.now in
    let end : c.loop-reader.reader-index ≡ length items = omega arith in
    let all : c.loop-reader.reader-index ≡ vec_len d.readers = end ∙ ap length c.deref-reader-items.ensures.value ∙ sym d.readers.ok.0 in
    c.loop-reader.invariant ∙ ap (λ n. d.lanes.items ++ lists_below of_readers n) all
    ∙ ap (λ l. l ++ lists_below of_readers (vec_len d.readers)) at.ended
    ∙ ap (λ l. all_ended x.plan.setup x.events ++ l) (open_is d x at)

pub returns-clause-devices : goal.returns-clause-devices
returns-clause-devices c = λ x at.
    let d = c.args.self in
    let before = newest_first x in
    let of_readers : ℕ → List Lane = λ r. open_lanes d.ports (slice_index_or d.readers.items r (open_of [])) in
    let items = c.deref-reader-items.result.now in
    let end : c.loop-reader.reader-index ≡ length items = omega arith in
    let all : c.loop-reader.reader-index ≡ vec_len d.readers = end ∙ ap length c.deref-reader-items.ensures.value ∙ sym d.readers.ok.0 in
    c.loop-reader.invariant ∙ ap (λ n. d.lanes.items ++ lists_below of_readers n) all
    ∙ ap (λ l. l ++ lists_below of_readers (vec_len d.readers)) at.ended
    ∙ ap (λ l. ended_by_entries x.plan.setup before ++ l) (open_is_of_devices d x.plan.setup before at)
