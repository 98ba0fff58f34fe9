use Rattle.std.proofs.Common.{◌++◌, ◌∙◌, take, ap, subst, sym}
use Rattle.std.proofs.lemmas.Result.{err_from_is_err_and}
use Rattle.report_judge.specs.declared.fault.JudgeFault.TheVariants.{Table}
use Rattle.report_judge.specs.Readings.{RefusedFrom}
use Rattle.report_judge.specs.Tables.{HasReadRows}
use Rattle.report_judge.proofs.ReadingLaws.{cut-whole, refused-on}
use Rattle.report_judge.proofs.TableLaws.{title-leads}
use Rattle.report_judge.proofs.reading.read_title.Goals as goal

pub returns-in_err-rows-clause-refuses : goal.returns-in_err-rows-clause-refuses
returns-in_err-rows-clause-refuses c =
    let p = err_from_is_err_and c.from_residual-in_err-rows.result c.from_residual-in_err-rows.ensures.1 in
    rw (p.1, p.2) (λ text h.
    let part = text ++ take c.in_ok-taken.taken.count c.args.bytes.now in
    refused-on c.args.asked.now text c.args.bytes.now c.in_ok-taken.taken.count c.in_err-rows.field-0.0
    (c.in_err-rows.ensures.refuses part (title-leads c.args.head c.read.new.self text (take c.in_ok-taken.taken.count c.args.bytes.now) h c.in_ok-taken.ensures.says)))

pub returns-in_err-read-clause-refuses : goal.returns-in_err-read-clause-refuses
returns-in_err-read-clause-refuses c =
    let p = err_from_is_err_and c.from_residual-in_err-read.result c.from_residual-in_err-read.ensures.1 in
    rw (p.1, p.2) (λ text h.
    let part = text ++ take c.in_ok-taken.taken.count c.args.bytes.now in
    let rows = c.in_ok-rows.ensures.reads part (title-leads c.args.head c.read.new.self text (take c.in_ok-taken.taken.count c.args.bytes.now) h c.in_ok-taken.ensures.says) in
    subst (λ t. RefusedFrom c.args.asked.now t (Table c.in_err-read.field-0.0))
    (ap (λ l. part ++ l) c.split_at.ensures.back ∙ cut-whole text c.args.bytes.now c.in_ok-taken.taken.count)
    (c.in_err-read.ensures.refuses c.args.asked.now part rows))

pub returns-in-Ok-clause-reads : goal.returns-in-Ok-clause-reads
returns-in-Ok-clause-reads c = λ text h begins.
    let part = text ++ take c.in_ok-taken.taken.count c.args.bytes.now in
    let rows = c.in_ok-rows.ensures.reads part (title-leads c.args.head c.read.new.self text (take c.in_ok-taken.taken.count c.args.bytes.now) h c.in_ok-taken.ensures.says) in (
      begins,
      subst (HasReadRows c.args.asked.now (text ++ c.args.bytes.now)) (sym c.in-Ok.ensures.ok)
          (subst (λ t. HasReadRows c.args.asked.now t c.read-2.new.self)
          (ap (λ l. part ++ l) c.split_at.ensures.back ∙ cut-whole text c.args.bytes.now c.in_ok-taken.taken.count)
          (c.in_ok-read.ensures.reads c.args.asked.now part rows)),
    )
