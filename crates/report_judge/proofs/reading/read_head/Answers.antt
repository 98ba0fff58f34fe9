use Rattle.std.proofs.Common.{◌++◌, ◌∙◌, take, ap, subst, sym}
use Rattle.std.proofs.lemmas.Result.{err_from_is_err_and}
use Rattle.report_judge.specs.declared.fault.JudgeFault.TheVariants.{Dump}
use Rattle.report_judge.specs.Readings.{HasReadBelow, RefusedFrom}
use Rattle.report_judge.proofs.ReadingLaws.{cut-whole, head-leads, refused-on}
use Rattle.report_judge.proofs.reading.read_head.Goals as goal

pub returns-in_err-below-clause-refuses : goal.returns-in_err-below-clause-refuses
returns-in_err-below-clause-refuses c =
    let p = err_from_is_err_and c.from_residual-in_err-below.result c.from_residual-in_err-below.ensures.1 in
    rw (p.1, p.2) (λ text h.
    let part = text ++ take c.in_ok-taken.taken.count c.args.bytes.now in
    refused-on c.args.asked.now text c.args.bytes.now c.in_ok-taken.taken.count c.in_err-below.field-0.0
    (c.in_err-below.ensures.refuses part (head-leads c.args.head c.read.new.self text (take c.in_ok-taken.taken.count c.args.bytes.now) h c.in_ok-taken.ensures.says)))

pub returns-in_err-read-clause-refuses : goal.returns-in_err-read-clause-refuses
returns-in_err-read-clause-refuses c =
    let p = err_from_is_err_and c.from_residual-in_err-read.result c.from_residual-in_err-read.ensures.1 in
    rw (p.1, p.2) (λ text h.
    let part = text ++ take c.in_ok-taken.taken.count c.args.bytes.now in
    let below = c.in_ok-below.ensures.reads part (head-leads c.args.head c.read.new.self text (take c.in_ok-taken.taken.count c.args.bytes.now) h c.in_ok-taken.ensures.says) in
    subst (λ t. RefusedFrom c.args.asked.now t (Dump c.in_err-read.field-0.0))
    (ap (λ l. part ++ l) c.split_at.ensures.back ∙ cut-whole text c.args.bytes.now c.in_ok-taken.taken.count)
    (c.in_err-read.ensures.refuses c.args.asked.now part below))

pub returns-in-Ok-clause-reads : goal.returns-in-Ok-clause-reads
returns-in-Ok-clause-reads c = λ text h begins.
    let part = text ++ take c.in_ok-taken.taken.count c.args.bytes.now in
    let below = c.in_ok-below.ensures.reads part (head-leads c.args.head c.read.new.self text (take c.in_ok-taken.taken.count c.args.bytes.now) h c.in_ok-taken.ensures.says) in (
      begins,
      subst (HasReadBelow c.args.asked.now (text ++ c.args.bytes.now)) (sym c.in-Ok.ensures.ok)
          (subst (λ t. HasReadBelow c.args.asked.now t c.read-2.new.self)
          (ap (λ l. part ++ l) c.split_at.ensures.back ∙ cut-whole text c.args.bytes.now c.in_ok-taken.taken.count)
          (c.in_ok-read.ensures.reads c.args.asked.now part below)),
    )
