use Rattle.std.proofs.Common.{◌≡◌, ◌++◌, [], All}
use Rattle.std.specs.Prelude.{slice_index_or}
use Rattle.report_found.specs.Accounts.{account_of}
use Rattle.report_found.specs.Findings.{lists_below, open_found}
use Rattle.report_found.specs.Soundness.{IsSoundFinding}
use Rattle.report_found.proofs.book.Book.push_open.Given as goal

abbrev pub invariant-loop-reader : goal.invariant-loop-reader
invariant-loop-reader l =
    (l.findings.items ≡ l.initial.findings.items
    ++ lists_below (λ r. open_found r l.self.ports (slice_index_or l.self.accounts.items r (account_of []))) l.reader)
    × (All IsSoundFinding l.initial.findings.items → All IsSoundFinding l.findings.items)
