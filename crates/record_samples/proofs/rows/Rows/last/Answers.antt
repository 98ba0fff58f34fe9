use Rattle.std.proofs.Common.{◌∙◌, [], List, sym, subst}
use Rattle.record_comtrade.specs.Samples.{Said}
use Rattle.record_comtrade.specs.Data.{FaultSays}
use Rattle.record_samples.proofs.ReadLaws.{ends_rows}
use Rattle.record_samples.proofs.rows.Rows.last.Goals as goal

pub returns-in-Ok-clause-says : goal.returns-in-Ok-clause-says
returns-in-Ok-clause-says c =
    ends_rows c.args.self.now c.as_slice-line.result.now (sym c.if-is_empty.ensures) c.as_slice-line.ensures.value ∙ c.in-Ok.ensures.says []

pub returns-in-Err-clause-refuses : goal.returns-in-Err-clause-refuses
returns-in-Err-clause-refuses c =
    let P : List Said → Type 0 = λ said. FaultSays c.in-Err.fault said in
    subst P (sym (ends_rows c.args.self.now c.as_slice-line.result.now (sym c.if-is_empty.ensures) c.as_slice-line.ensures.value)) (c.in-Err.ensures.refuses [])
