use Rattle.std.proofs.Common.{◌∙◌, List, ap, string_bytes, subst}
use Rattle.std.proofs.lemmas.Result.{err_from_is_err_and}
use Rattle.record_comtrade.specs.Reads.{value_of}
use Rattle.record_verdict.specs.Zeros.{zero_of}
use Rattle.report_verdict.specs.declared.line_seen.LineSeen.{LineSeen}
use Rattle.report_judge.specs.Hearings.{IsVerdictText}
use Rattle.report_judge.specs.Stamps.{said_of_stamp}
use Rattle.report_judge.proofs.RecordLaws.{ends-samples, no-device-samples, no-read-samples, refused-at-last}
use Rattle.report_judge.proofs.record.Record.end.Goals as goal

pub returns-clause-judged : goal.returns-clause-judged
returns-clause-judged c = λ config bytes h.
    let verdict = c.end-2.new.self.verdict in
    let said = c.as_str.ensures.value ∙ c.in_ok-said.ensures
    ∙ ap (λ z. said_of_stamp c.args.asked.now.as_json (value_of c.args.self.config) c.args.asked.now.zone z) c.zero.ensures
    ∙ ap (λ v. said_of_stamp c.args.asked.now.as_json v c.args.asked.now.zone (zero_of verdict.first)) h.is in
    ends-samples c.args.asked.now config bytes c.args.self c.in_ok-end.end c.hear.new.self c.end-2.new.self c.in_ok-judged.judged h c.in_ok-end.ensures
    c.hear.ensures.some c.hear.ensures.none c.hear.ensures.form c.end-2.ensures.ends c.end-2.ensures.form
    (subst (λ s. (seen : List LineSeen) × IsVerdictText s c.end-2.new.self.as_json verdict seen (string_bytes c.in_ok-judged.judged.text)) said c.in_ok-judged.ensures.text)
    c.in_ok-judged.ensures.decided

pub returns-in_err-end-clause-refuses : goal.returns-in_err-end-clause-refuses
returns-in_err-end-clause-refuses c =
    let p = err_from_is_err_and c.from_residual.result c.from_residual.ensures.1 in
    rw (p.1, p.2) (λ config bytes h. refused-at-last c.args.asked.now config bytes c.args.self c.in_err-end.field-0.0 h c.in_err-end.ensures)

pub returns-in_err-end-clause-config_device : goal.returns-in_err-end-clause-config_device
returns-in_err-end-clause-config_device c =
    let p = err_from_is_err_and c.from_residual.result c.from_residual.ensures.1 in
    rw (p.1, p.2) (no-read-samples c.in_err-end.field-0.0)

pub returns-in_err-end-clause-data_device : goal.returns-in_err-end-clause-data_device
returns-in_err-end-clause-data_device c =
    let p = err_from_is_err_and c.from_residual.result c.from_residual.ensures.1 in
    rw (p.1, p.2) (no-device-samples c.in_err-end.field-0.0)
