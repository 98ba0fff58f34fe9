use Rattle.std.proofs.Common.{◌∙◌, List, Ok, ap, sym, subst}
use Rattle.record_comtrade.specs.Samples.{Said}
use Rattle.record_comtrade.specs.Data.{FaultSays}
use Rattle.record_samples.proofs.ReadLaws.{hears}
use Rattle.record_samples.proofs.course.Course.hear.Goals as goal

pub returns-in-Err-take-clause-refuses : goal.returns-in-Err-take-clause-refuses
returns-in-Err-take-clause-refuses c = λ lines.
    let P : List Said → Type 0 = λ said. FaultSays c.in-Err-take.fault said in
    subst P (sym (hears c.args.self.now c.in-Ok-Some.row c.args.line.now c.args.number lines c.requires.goes (sym c.in-Ok-Some.ensures.says ∙ ap Ok c.in-Ok-Some.field-0-is)))
    (c.in-Err-take.ensures.refuses lines)
