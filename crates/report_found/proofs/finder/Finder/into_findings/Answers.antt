use Rattle.std.proofs.Common.{◌++◌, ◌∙◌, [], ap}
use Rattle.std.specs.Prelude.{slice_index_or, vec_len}
use Rattle.irig_station_scene.specs.StationScenes.{newest_first}
use Rattle.report_found.specs.Accounts.{account_of}
use Rattle.report_found.specs.DeviceScenes.{ended_by_entries}
use Rattle.report_found.specs.Scenes.{all_ended}
use Rattle.report_found.specs.Findings.{lists_below, open_found}
use Rattle.report_found.proofs.DeviceLaws.{open_is_of_devices}
use Rattle.report_found.proofs.EventLaws.{open_is}
use Rattle.report_found.proofs.finder.Finder.into_findings.Goals as goal

pub returns-clause-readers : goal.returns-clause-readers
returns-clause-readers c = λ x at.
    let b = c.args.self.book in
    c.in_ok-push_open.ensures.exact
    ∙ ap (λ l. l ++ lists_below (λ r. open_found r b.ports (slice_index_or b.accounts.items r (account_of []))) (vec_len b.accounts)) at.found
    ∙ ap (λ l. all_ended x.plan.setup x.events ++ l) (open_is b x at.book)

pub returns-clause-devices : goal.returns-clause-devices
returns-clause-devices c = λ x at.
    let b = c.args.self.book in
    let before = newest_first x in
    c.in_ok-push_open.ensures.exact
    ∙ ap (λ l. l ++ lists_below (λ r. open_found r b.ports (slice_index_or b.accounts.items r (account_of []))) (vec_len b.accounts)) at.found
    ∙ ap (λ l. ended_by_entries x.plan.setup before ++ l) (open_is_of_devices b x.plan.setup before at.book)
