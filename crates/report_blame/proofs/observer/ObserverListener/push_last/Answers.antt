use Rattle.std.proofs.Common.{◌++◌, ◌∙◌, [], ap}
use Rattle.std.specs.Prelude.{slice_index_or, vec_len}
use Rattle.irig_scene.proofs.LogLaws.{on_ok}
use Rattle.report_found.specs.Accounts.{account_of}
use Rattle.report_found.specs.Findings.{lists_below, open_found}
use Rattle.report_blame.proofs.ObserverLaws.{closing_is, end_is}
use Rattle.report_blame.proofs.observer.ObserverListener.push_last.Goals as goal

pub returns-then-refused : goal.returns-then-refused
returns-then-refused g c =
    let b = c.args.self.now.book in
    let left = c.deref.ensures.value ∙ c.in_ok-push_open.ensures.exact ∙ ap (λ l. l ++ lists_below (λ r. open_found r b.ports (slice_index_or b.accounts.items r (account_of []))) (vec_len b.accounts)) c.new-open.ensures.items in
    rw c.if-refused.true (λ x at stands. closing_is _ b _ x c.deref.result.now _ _ _ at stands.named left c.in_ok-push_findings.ensures c.in_ok-push_book_totals.ensures)

pub returns : goal.returns
returns g c =
    let b = c.args.self.now.book in
    let left = c.deref.ensures.value ∙ c.in_ok-push_open.ensures.exact ∙ ap (λ l. l ++ lists_below (λ r. open_found r b.ports (slice_index_or b.accounts.items r (account_of []))) (vec_len b.accounts)) c.new-open.ensures.items in
    rw c.if-refused.false
    (on_ok c.push_audit.result _ _ (λ ended x at stands. end_is _ _ x _ _ _ _ c.audit.result (closing_is _ b _ x c.deref.result.now _ _ _ at stands.named left c.in_ok-push_findings.ensures c.in_ok-push_book_totals.ensures) ended c.audit.ensures stands) c.push_audit.ensures)
