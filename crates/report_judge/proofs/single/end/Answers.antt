use Rattle.std.specs.Prelude.{box_value}
use Rattle.std.proofs.Common.{inl, subst, sym}
use Rattle.std.proofs.lemmas.Result.{err_from_is_err_and}
use Rattle.record_single.specs.Singles.{limited}
use Rattle.report_judge.specs.declared.single.Below.{Below}
use Rattle.report_judge.specs.Records.{HasReadSamples}
use Rattle.report_judge.specs.Singles.{HasReadPart}
use Rattle.report_judge.proofs.SingleLaws.{ends-above, judged-below, refused-at-end}
use Rattle.report_judge.proofs.single.end.Goals as goal

pub returns-in-Above-clause-refuses : goal.returns-in-Above-clause-refuses
returns-in-Above-clause-refuses c = λ file h.
    inl (ends-above c.args.asked.now file c.in-Above.field-0 (subst (HasReadPart c.args.asked.now file) c.in-Above.is h))

pub returns-in_err-judged-in-Below-clause-refuses : goal.returns-in_err-judged-in-Below-clause-refuses
returns-in_err-judged-in-Below-clause-refuses c =
    let p = err_from_is_err_and c.from_residual.result c.from_residual.ensures.1 in
    rw (p.1, p.2) (λ file h.
    let read = subst (HasReadPart c.args.asked.now file) c.in-Below.is h in
    refused-at-end c.args.asked.now file (box_value c.in-Below.below) c.in_err-judged-in-Below.field-0.0 read
    (c.in_err-judged-in-Below.ensures.refuses read.config (limited read.count read.front)
    (subst (λ (b : Below). HasReadSamples c.args.asked.now read.config (limited read.count read.front) b.record) (sym c.into_inner.ensures) read.reads)))

pub returns-clause-judged : goal.returns-clause-judged
returns-clause-judged c = λ file h.
    let read = subst (HasReadPart c.args.asked.now file) c.in-Below.is h in
    judged-below c.args.asked.now file (box_value c.in-Below.below) c.in_ok-judged-in-Below.judged read
    (c.in_ok-judged-in-Below.ensures.judged read.config (limited read.count read.front)
    (subst (λ (b : Below). HasReadSamples c.args.asked.now read.config (limited read.count read.front) b.record) (sym c.into_inner.ensures) read.reads))
