use Rattle.std.proofs.Common.{◌++◌, ◌∙◌, [], ap}
use Rattle.std.specs.Prelude.{slice_index_or, vec_len}
use Rattle.irig_scene.proofs.LogLaws.{on_ok}
use Rattle.irig_station_scene.specs.StationScenes.{standing_in}
use Rattle.report_found.specs.Accounts.{account_of}
use Rattle.report_found.specs.Findings.{lists_below, open_found}
use Rattle.report_blame.proofs.DeviceLaws.{closing_of_devices, end_of_devices}
use Rattle.report_blame.proofs.observer.ObserverStationListener.push_last.Goals as goal

pub returns-then-refused : goal.returns-then-refused
returns-then-refused g c =
    let o = c.args.self.now in
    let b = o.book in
    let left = c.deref.ensures.value ∙ c.in_ok-push_open.ensures.exact ∙ ap (λ l. l ++ lists_below (λ r. open_found r b.ports (slice_index_or b.accounts.items r (account_of []))) (vec_len b.accounts)) c.new-open.ensures.items in
    rw c.if-refused.true (λ x at stands. closing_of_devices _ o _ x at stands.named c.all.result.now c.all.ensures c.deref.result.now _ _ _ left c.in_ok-push_findings.ensures c.in_ok-push_book_totals.ensures)

pub returns : goal.returns
returns g c =
    let o = c.args.self.now in
    let b = o.book in
    let left = c.deref.ensures.value ∙ c.in_ok-push_open.ensures.exact ∙ ap (λ l. l ++ lists_below (λ r. open_found r b.ports (slice_index_or b.accounts.items r (account_of []))) (vec_len b.accounts)) c.new-open.ensures.items in
    rw c.if-refused.false
    (on_ok c.push_station_audit.result _ _ (λ ended x at stands.
    end_of_devices x _ _ c.audit.result _ _ _ stands.named (c.audit.ensures x.plan.setup (standing_in x) stands.shown stands.stands)
    (closing_of_devices _ o _ x at stands.named c.all.result.now c.all.ensures c.deref.result.now _ _ _ left c.in_ok-push_findings.ensures c.in_ok-push_book_totals.ensures) ended) c.push_station_audit.ensures)
