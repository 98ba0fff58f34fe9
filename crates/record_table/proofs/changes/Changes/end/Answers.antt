use Rattle.std.proofs.Common.{[], ◌++◌, nat_eq, length, ◌∙◌, ap, sym}
use Rattle.std.proofs.lemmas.Result.{err_from_is_err_and}
use Rattle.record_table.specs.Changes.{ended, said}
use Rattle.record_table.specs.Tables.{to_come}
use Rattle.record_table.proofs.TableLaws.{end-says, hears-last, rests}
use Rattle.record_table.proofs.changes.Changes.end.Goals as goal

pub returns-in_err-before : goal.returns-in_err-before
returns-in_err-before c =
    let p = err_from_is_err_and c.from_residual.result c.from_residual.ensures.1 in
    let hears = hears-last c.args.self c.number-number.result c.number-number.ensures (ap (λ t. nat_eq (length t) 0) (sym c.text.ensures.text) ∙ sym c.if-is_empty.ensures) in
    rw (p.1, p.2) (hears ∙ c.in_err-before.ensures.refuses [])

pub returns : goal.returns
returns c =
    let hears = hears-last c.args.self c.number-number.result c.number-number.ensures (ap (λ t. nat_eq (length t) 0) (sym c.text.ensures.text) ∙ sym c.if-is_empty.ensures) in
    let heard = c.in_ok-before.ensures in
    let before = c.in_ok-before.before in
    let then = c.hear.new.self in
    end-says c.ended-2.result before (to_come c.args.self []) (ended then.above then.here)
    (hears ∙ heard.says [] ∙ ap (λ l. said before ++ l) (rests then heard.cleared heard.goes))
    c.ended-2.ensures.before c.ended-2.ensures.ends c.ended-2.ensures.none c.ended-2.ensures.refuses
