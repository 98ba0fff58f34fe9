use Rattle.std.proofs.lemmas.Result.{err_from_is_err_and}
use Rattle.record_comtrade.specs.Reads.{value_of}
use Rattle.report_judge.proofs.RecordLaws.{by-samples, if-known, judged-both}
use Rattle.report_judge.proofs.record.judge_record.Goals as goal

pub returns-in_err-read_all-clause-refused : goal.returns-in_err-read_all-clause-refused
returns-in_err-read_all-clause-refused g c =
    let config = value_of c.in_ok-config.config in
    let p = err_from_is_err_and c.from_residual-in_err-read_all.result c.from_residual-in_err-read_all.ensures.1 in
    rw (p.1, p.2) (λ no_config no_samples.
    by-samples c.args.asked.now config _ _ c.in_err-read_all.field-0.0 c.in_ok-config.ensures.says
    (c.in_err-read_all.ensures.refuses no_samples c.args.asked.now config c.in_ok-record.ensures.reads))

pub returns-in_err-judged-clause-refused : goal.returns-in_err-judged-clause-refused
returns-in_err-judged-clause-refused g c =
    let config = value_of c.in_ok-config.config in
    let p = err_from_is_err_and c.from_residual-in_err-judged.result c.from_residual-in_err-judged.ensures.1 in
    rw (p.1, p.2) (λ no_config no_samples.
    by-samples c.args.asked.now config _ _ c.in_err-judged.field-0.0 c.in_ok-config.ensures.says
    (if-known _ _ _ (c.in_err-judged.ensures.refuses config) (c.in_ok-read_all.ensures.reads c.args.asked.now config c.in_ok-record.ensures.reads)))

pub returns-clause-judged : goal.returns-clause-judged
returns-clause-judged g c =
    let config = value_of c.in_ok-config.config in
    judged-both c.args.asked.now config _ _ _ c.in_ok-config.ensures.says
    (if-known _ _ _ (c.in_ok-judged.ensures.judged config) (c.in_ok-read_all.ensures.reads c.args.asked.now config c.in_ok-record.ensures.reads))
