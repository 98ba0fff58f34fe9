use Rattle.std.proofs.Common.{◌∙◌, List, sym, subst}
use Rattle.record_comtrade.specs.Data.{FaultSays}
use Rattle.record_comtrade.specs.Samples.{Said}
use Rattle.record_samples.proofs.MixedLaws.{begun_ends}
use Rattle.record_samples.proofs.mixed.Mixed.hear_open.Goals as goal

pub returns-in-Ok-clause-says : goal.returns-in-Ok-clause-says
returns-in-Ok-clause-says c = λ more.
    begun_ends c.args.self.now c.args.bytes.now c.as_slice.result.now c.joined.new.begun.items c.requires.whole
    (c.as_slice.ensures.value ∙ c.in_ok-sample.ensures.items) c.in_ok-sample.ensures.none more
    ∙ c.in-Ok.ensures.says more

pub returns-clause-refuses : goal.returns-clause-refuses
returns-clause-refuses c = λ more.
    let P : List Said → Type 0 = λ l. FaultSays c.in-Err.fault l in
    subst P (sym (begun_ends c.args.self.now c.args.bytes.now c.as_slice.result.now c.joined.new.begun.items c.requires.whole
    (c.as_slice.ensures.value ∙ c.in_ok-sample.ensures.items) c.in_ok-sample.ensures.none more)) (c.in-Err.ensures.refuses more)
