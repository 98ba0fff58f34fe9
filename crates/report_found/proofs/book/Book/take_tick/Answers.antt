use Rattle.std.proofs.Common.{◌++◌, ◌∙◌, [], ap, arith}
use Rattle.report_found.specs.declared.account.Account.{Account}
use Rattle.report_found.specs.Accounts.{account_of}
use Rattle.report_found.specs.Findings.{ended_found}
use Rattle.report_found.proofs.EventLaws.{on_any}
use Rattle.report_found.proofs.book.Book.take_tick.Goals as goal

pub returns-clause-found : goal.returns-clause-found
returns-clause-found c =
    on_any c.add.result _ (λ readers ticks has low.
    let t = c.args.tick.now in
    c.in_ok-push_ended.ensures.exact (account_of []) (omega (arith, low, has.count))
    ∙ ap (λ (a : Account). c.args.findings.now.items ++ ended_found t.entry.reader c.args.self.now.ports a t) (has.each t.entry.reader (account_of []) low))
