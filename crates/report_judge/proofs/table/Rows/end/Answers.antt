use Rattle.std.proofs.lemmas.Result.{err_from_is_err_and}
use Rattle.report_judge.proofs.TableLaws.{ends-rows, refused-at-last}
use Rattle.report_judge.proofs.table.Rows.end.Goals as goal

pub returns-in_err-end-clause-refuses : goal.returns-in_err-end-clause-refuses
returns-in_err-end-clause-refuses c =
    let p = err_from_is_err_and c.from_residual.result c.from_residual.ensures.1 in
    rw (p.1, p.2) (λ asked text h. refused-at-last asked text c.args.self c.in_err-end.field-0.0 h c.in_err-end.ensures)

pub returns-clause-judged : goal.returns-clause-judged
returns-clause-judged c = λ asked text begins h.
    ends-rows asked text c.args.self c.in_ok-end.end.before c.in_ok-end.end.levels c.in_ok-end.end.time_ns c.hear.new.self c.hear-2.new.self c.end-2.new.self c.in_ok-judged.judged begins h c.in_ok-end.ensures
    c.hear.ensures.some c.hear.ensures.none c.hear.ensures.form c.hear-2.ensures.some c.hear-2.ensures.none c.hear-2.ensures.form c.end-2.ensures.ends c.end-2.ensures.form c.in_ok-judged.ensures.text c.in_ok-judged.ensures.decided
