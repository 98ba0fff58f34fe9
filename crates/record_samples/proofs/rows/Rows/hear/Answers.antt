use Rattle.std.proofs.Common.{◌∙◌, ◌∷◌, List, sym, subst}
use Rattle.record_comtrade.specs.declared.reader.DataFault.{DataFault}
use Rattle.record_comtrade.specs.Samples.{Said}
use Rattle.record_comtrade.specs.Data.{FaultSays}
use Rattle.record_samples.specs.Readers.{course_says, open_line}
use Rattle.record_samples.proofs.ReadLaws.{line_alone, line_joined, refuses_line}
use Rattle.record_samples.proofs.rows.Rows.hear.Goals as goal

pub returns-in-Ok-clause-says : goal.returns-in-Ok-clause-says
returns-in-Ok-clause-says c = λ lines.
    line_alone c.args.self.now c.as_slice-begun.result.now c.args.front.now (sym c.if-is_empty.ensures) c.as_slice-begun.ensures.value lines
    ∙ c.in-Ok.ensures.says lines

pub returns-in-Err-clause-refuses : goal.returns-in-Err-clause-refuses
returns-in-Err-clause-refuses c = λ lines.
    let P : List Said → Type 0 = λ said. FaultSays c.in-Err.fault said in
    subst P (sym (line_alone c.args.self.now c.as_slice-begun.result.now c.args.front.now (sym c.if-is_empty.ensures) c.as_slice-begun.ensures.value lines))
    (c.in-Err.ensures.refuses lines)

pub returns-then-not-fits-clause-refuses : goal.returns-then-not-fits-clause-refuses
returns-then-not-fits-clause-refuses c = λ lines.
    let P : DataFault → Type 0 = λ fault. FaultSays fault (course_says c.args.self.now.course (open_line c.args.self.now c.args.front.now ∷ lines)) in
    subst P (sym c.refuse.ensures) (refuses_line c.args.self.now c.args.front.now lines c.requires.goes (c.in_ok-fits.ensures.long c.if-not-fits.true))

pub returns-in-Ok-hear-clause-says : goal.returns-in-Ok-hear-clause-says
returns-in-Ok-hear-clause-says c = λ lines.
    line_joined c.args.self.now c.args.front.now c.as_slice.result.now (c.as_slice.ensures.value ∙ c.in_ok-fits.ensures.items c.if-not-fits.false) lines
    ∙ c.in-Ok-hear.ensures.says lines

pub returns-in-Err-hear-clause-refuses : goal.returns-in-Err-hear-clause-refuses
returns-in-Err-hear-clause-refuses c = λ lines.
    let P : List Said → Type 0 = λ said. FaultSays c.in-Err-hear.fault said in
    subst P (sym (line_joined c.args.self.now c.args.front.now c.as_slice.result.now (c.as_slice.ensures.value ∙ c.in_ok-fits.ensures.items c.if-not-fits.false) lines))
    (c.in-Err-hear.ensures.refuses lines)
