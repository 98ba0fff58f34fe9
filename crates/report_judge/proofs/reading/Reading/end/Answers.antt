use Rattle.std.specs.Prelude.{box_value}
use Rattle.std.proofs.Common.{subst, sym, inl, inr}
use Rattle.report_judge.specs.Readings.{HasReadBelow, HasReadTo}
use Rattle.report_judge.specs.Tables.{HasReadRows}
use Rattle.report_judge.proofs.ReadingLaws.{if-ok-on, unended}
use Rattle.report_judge.proofs.reading.Reading.end.Goals as goal

pub returns-in-Head-clause-refuses : goal.returns-in-Head-clause-refuses
returns-in-Head-clause-refuses c = λ asked text h.
    let r = subst (HasReadTo asked text) c.in-Head.is h in unended asked text c.in-Head.field-0 r.1 r.2

pub returns-in-Title-clause-refuses : goal.returns-in-Title-clause-refuses
returns-in-Title-clause-refuses c = λ asked text h.
    let r = subst (HasReadTo asked text) c.in-Title.is h in (c.in-Title.field-0, r.1, r.2)

pub returns-in-Below-clause-judged : goal.returns-in-Below-clause-judged
returns-in-Below-clause-judged c = if-ok-on _ _ c.end.result
    (λ judged whole asked text h.
    let read = subst (HasReadTo asked text) c.in-Below.is h in
    inl (whole asked text read.0 (subst (HasReadBelow asked text) (sym c.into_inner.ensures) (subst (λ b. HasReadBelow asked text (box_value b)) (sym c.in-Below.below-is) read.1))))
    c.end.ensures.judged

pub returns-clause-judged : goal.returns-clause-judged
returns-clause-judged c = if-ok-on _ _ c.end-in-Rows.result
    (λ judged whole asked text h.
    let read = subst (HasReadTo asked text) c.in-Rows.is h in
    inr (whole asked text read.0 (subst (HasReadRows asked text) (sym c.into_inner-in-Rows.ensures) (subst (λ b. HasReadRows asked text (box_value b)) (sym c.in-Rows.rows-is) read.1))))
    c.end-in-Rows.ensures.judged
