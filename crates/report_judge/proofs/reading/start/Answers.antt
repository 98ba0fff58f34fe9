use Rattle.std.proofs.Common.{[], rules, subst, sym}
use Rattle.std.proofs.lemmas.Result.{err_from_is_err_and}
use Rattle.report_judge.specs.Readings.{HasReadTo}
use Rattle.report_judge.proofs.ReadingLaws.{begins-head}
use Rattle.report_judge.proofs.TableLaws.{begins-title, other-form}
use Rattle.report_judge.proofs.reading.start.Goals as goal
use Rattle.report_judge.proofs.reading.start.Goals.{then-begins_dump+in_ok-stage, else-begins_dump+in_ok-stage-2}

pub returns-in_err-stage-clause-refuses : goal.returns-in_err-stage-clause-refuses
returns-in_err-stage-clause-refuses c =
    let p = err_from_is_err_and c.from_residual.result c.from_residual.ensures.1 in
    rw (p.1, p.2) (c.in_err-stage.ensures.refuses [] (begins-head c.new.result c.new.ensures))

pub returns-in_err-stage-2-clause-refuses : goal.returns-in_err-stage-2-clause-refuses
returns-in_err-stage-2-clause-refuses c =
    let p = err_from_is_err_and c.from_residual-in_err-stage-2.result c.from_residual-in_err-stage-2.ensures.1 in
    rw (p.1, p.2) (c.in_err-stage-2.ensures.refuses [] (begins-title c.new-else-begins_dump.result c.new-else-begins_dump.ensures))

pub returns-clause-reads : goal.returns-clause-reads
returns-clause-reads c = elim c.if-begins_dump.branch [
  | then-begins_dump+in_ok-stage w ↦
      subst (HasReadTo c.args.asked.now c.args.bytes.now) (sym w.stage-is)
      (w.in_ok-stage.ensures.reads [] (begins-head w.new.result w.new.ensures) (search rules))
  | else-begins_dump+in_ok-stage-2 w ↦
      subst (HasReadTo c.args.asked.now c.args.bytes.now) (sym w.stage-is)
      (w.in_ok-stage-2.ensures.reads [] (begins-title w.new-else-begins_dump.result w.new-else-begins_dump.ensures)
      (other-form c.args.bytes.now (search rules) (search rules)))
]
