use Rattle.std.specs.Prelude.{box_value}
use Rattle.std.proofs.Common.{◌++◌, ap, subst, sym}
use Rattle.std.proofs.lemmas.Result.{err_from_is_err_and}
use Rattle.report_judge.specs.Readings.{HasReadBelow, HasReadHead, HasReadTo, RefusedFrom}
use Rattle.report_judge.specs.Tables.{HasReadRows, HasReadTitle}
use Rattle.report_judge.proofs.ReadingLaws.{goes-on}
use Rattle.report_judge.proofs.TableLaws.{goes-on-table}
use Rattle.report_judge.proofs.reading.Reading.read.Goals as goal
use Rattle.report_judge.proofs.reading.Reading.read.Goals.{in-Start+in_ok-stage-in-Start, in-Head+in_ok-stage-in-Head, in-Below+in_ok-read-in-Below, in-Title+in_ok-stage-in-Title, in-Rows+in_ok-read-in-Rows}

pub returns-in_err-stage-in-Start-clause-refuses : goal.returns-in_err-stage-in-Start-clause-refuses
returns-in_err-stage-in-Start-clause-refuses c =
    let p = err_from_is_err_and c.from_residual.result c.from_residual.ensures.1 in
    rw (p.1, p.2) (λ text h.
    let empty = subst (HasReadTo c.args.asked.now text) c.in-Start.is h in
    subst (λ t. RefusedFrom c.args.asked.now t c.in_err-stage-in-Start.field-0.0) (ap (λ t. t ++ c.args.bytes.now) (sym empty)) c.in_err-stage-in-Start.ensures.refuses)

pub returns-in_err-stage-in-Head-clause-refuses : goal.returns-in_err-stage-in-Head-clause-refuses
returns-in_err-stage-in-Head-clause-refuses c =
    let p = err_from_is_err_and c.from_residual-in_err-stage-in-Head.result c.from_residual-in_err-stage-in-Head.ensures.1 in
    rw (p.1, p.2) (λ text h.
    let read = subst (HasReadTo c.args.asked.now text) c.in-Head.is h in
    c.in_err-stage-in-Head.ensures.refuses text (subst (HasReadHead text) (sym c.in-Head.head-is) read.1))

pub returns-in_err-read-in-Below-clause-refuses : goal.returns-in_err-read-in-Below-clause-refuses
returns-in_err-read-in-Below-clause-refuses c =
    let p = err_from_is_err_and c.from_residual-in_err-read-in-Below.result c.from_residual-in_err-read-in-Below.ensures.1 in
    rw (p.1, p.2) (λ text h.
    let read = subst (HasReadTo c.args.asked.now text) c.in-Below.is h in
    c.in_err-read-in-Below.ensures.refuses c.args.asked.now text (subst (HasReadBelow c.args.asked.now text) (sym c.deref_mut.ensures.value) (subst (λ b. HasReadBelow c.args.asked.now text (box_value b)) (sym c.in-Below.below-is) read.1)))

pub returns-in_err-stage-in-Title-clause-refuses : goal.returns-in_err-stage-in-Title-clause-refuses
returns-in_err-stage-in-Title-clause-refuses c =
    let p = err_from_is_err_and c.from_residual-in_err-stage-in-Title.result c.from_residual-in_err-stage-in-Title.ensures.1 in
    rw (p.1, p.2) (λ text h.
    let read = subst (HasReadTo c.args.asked.now text) c.in-Title.is h in
    c.in_err-stage-in-Title.ensures.refuses text (subst (HasReadTitle text) (sym c.in-Title.head-is) read.1))

pub returns-in_err-read-in-Rows-clause-refuses : goal.returns-in_err-read-in-Rows-clause-refuses
returns-in_err-read-in-Rows-clause-refuses c =
    let p = err_from_is_err_and c.from_residual-in_err-read-in-Rows.result c.from_residual-in_err-read-in-Rows.ensures.1 in
    rw (p.1, p.2) (λ text h.
    let read = subst (HasReadTo c.args.asked.now text) c.in-Rows.is h in
    c.in_err-read-in-Rows.ensures.refuses c.args.asked.now text (subst (HasReadRows c.args.asked.now text) (sym c.deref_mut-in-Rows.ensures.value) (subst (λ b. HasReadRows c.args.asked.now text (box_value b)) (sym c.in-Rows.rows-is) read.1)))

pub returns-clause-reads : goal.returns-clause-reads
returns-clause-reads c = λ text h. elim c.match-self.branch [
  | in-Start+in_ok-stage-in-Start w ↦
      subst (λ t. HasReadTo c.args.asked.now (t ++ c.args.bytes.now) c.match-self.stage) (sym (subst (HasReadTo c.args.asked.now text) w.in-Start.is h))
      (subst (HasReadTo c.args.asked.now c.args.bytes.now) (sym w.stage-is) w.in_ok-stage-in-Start.ensures.reads)
  | in-Head+in_ok-stage-in-Head w ↦
      let read = subst (HasReadTo c.args.asked.now text) w.in-Head.is h in
      subst (HasReadTo c.args.asked.now (text ++ c.args.bytes.now)) (sym w.stage-is)
      (w.in_ok-stage-in-Head.ensures.reads text (subst (HasReadHead text) (sym w.in-Head.head-is) read.1) (goes-on text c.args.bytes.now read.0))
  | in-Below+in_ok-read-in-Below w ↦
      let read = subst (HasReadTo c.args.asked.now text) w.in-Below.is h in
      subst (HasReadTo c.args.asked.now (text ++ c.args.bytes.now)) (sym w.stage-is)
      (goes-on text c.args.bytes.now read.0, w.in_ok-read-in-Below.ensures.reads c.args.asked.now text (subst (HasReadBelow c.args.asked.now text) (sym w.deref_mut.ensures.value) (subst (λ b. HasReadBelow c.args.asked.now text (box_value b)) (sym w.in-Below.below-is) read.1)))
  | in-Title+in_ok-stage-in-Title w ↦
      let read = subst (HasReadTo c.args.asked.now text) w.in-Title.is h in
      subst (HasReadTo c.args.asked.now (text ++ c.args.bytes.now)) (sym w.stage-is)
      (w.in_ok-stage-in-Title.ensures.reads text (subst (HasReadTitle text) (sym w.in-Title.head-is) read.1) (goes-on-table text c.args.bytes.now read.0))
  | in-Rows+in_ok-read-in-Rows w ↦
      let read = subst (HasReadTo c.args.asked.now text) w.in-Rows.is h in
      subst (HasReadTo c.args.asked.now (text ++ c.args.bytes.now)) (sym w.stage-is)
      (goes-on-table text c.args.bytes.now read.0, w.in_ok-read-in-Rows.ensures.reads c.args.asked.now text (subst (HasReadRows c.args.asked.now text) (sym w.deref_mut-in-Rows.ensures.value) (subst (λ b. HasReadRows c.args.asked.now text (box_value b)) (sym w.in-Rows.rows-is) read.1)))
]
