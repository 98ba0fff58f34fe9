use Rattle.std.proofs.Common.{◌∙◌, ◌+◌, ◌++◌, List, drop, refl, sym, subst}
use Rattle.record_comtrade.specs.Samples.{Said}
use Rattle.record_comtrade.specs.Data.{FaultSays}
use Rattle.record_samples.proofs.ReadLaws.{closes_rows, closes_whole}
use Rattle.record_samples.proofs.rows.Rows.next.Goals as goal

pub returns-in-Err-clause-refuses : goal.returns-in-Err-clause-refuses
returns-in-Err-clause-refuses c = λ more.
    let P : List Said → Type 0 = λ said. FaultSays c.in-Err.fault said in
    subst P (sym (closes_whole c.args.self.now c.args.bytes.now c.split_at.result.0.now more c.end_in-count.result _ c.end_in-count.ensures.count c.if-count-bytes.true
    (sym c.is_rest.ensures ∙ c.if-is_rest.false) c.split_at.ensures.front refl)) (c.in-Err.ensures.refuses (drop (c.end_in-count.result + 1) c.args.bytes.now ++ more))

pub returns-then-count-bytes-clause-says : goal.returns-then-count-bytes-clause-says
returns-then-count-bytes-clause-says c = λ more.
    closes_rows c.args.self.now c.args.bytes.now c.split_at.result.0.now more c.end_in-count.result _ c.end_in-count.ensures.count c.if-count-bytes.true
    (sym c.is_rest.ensures ∙ c.if-is_rest.false) c.split_at.ensures.front refl
    ∙ c.in-Ok.ensures.says more
