use Rattle.std.proofs.Common.{◌≡◌, ◌++◌, [], string_bytes}
use Rattle.std.specs.Prelude.{slice_index_or}
use Rattle.report_log.specs.Text.{name_at, texts_of}
use Rattle.report_found.specs.Accounts.{account_of}
use Rattle.report_found.specs.Findings.{lists_below}
use Rattle.report_blame.specs.Reaches.{reach_at}
use Rattle.report_blame.specs.Text.{total_lines}
use Rattle.report_blame.proofs.text.push_book_totals.Given as goal

abbrev pub invariant-loop-reader : goal.invariant-loop-reader
invariant-loop-reader l =
    string_bytes l.text ≡ string_bytes l.initial.text
    ++ lists_below (λ r. total_lines l.lines (name_at (texts_of l.names.keys) r) (reach_at l.reaches r) l.book.ports (slice_index_or l.book.accounts.items r (account_of []))) l.reader
