use Rattle.std.proofs.Common.{◌∙◌, ◌∷◌, ap, sym, drop, arith}
use Rattle.record_comtrade.specs.declared.now.Step.TheVariants.{Goes, Says, Refuses}
use Rattle.record_comtrade.specs.Data.{plan_of}
use Rattle.record_comtrade.specs.Samples.Said.{Change}
use Rattle.record_comtrade.specs.Samples.{counted}
use Rattle.record_comtrade.proofs.SampleLaws.{goes_on, heard, judged_goes, same_stays}
use Rattle.record_comtrade.proofs.data.Data.hear.Goals as goal

pub returns-in-Goes-clause-says : goal.returns-in-Goes-clause-says
returns-in-Goes-clause-says c = λ more.
    heard c.args.self.now c.args.sample.now (Goes c.in-Goes.now) more c.requires.goes c.requires.none c.requires.whole
    (omega (arith, c.args.self.now.is_begun)) (sym c.in-Goes.is ∙ c.judged-step.ensures)
    ∙ goes_on (plan_of c.args.self.now) c.args.self.now.size c.args.self.now.refusal c.in-Goes.now (drop c.args.self.now.offset c.args.sample.now)
    c.set.new.bytes.items c.args.self.now.begun.items more c.requires.goes c.requires.none (c.in_ok-set.ensures ∙ c.split_at.ensures.back)

pub returns-in-Says-clause-says : goal.returns-in-Says-clause-says
returns-in-Says-clause-says c = λ more.
    heard c.args.self.now c.args.sample.now (Says c.in-Says.levels c.in-Says.now) more c.requires.goes c.requires.none c.requires.whole
    (omega (arith, c.args.self.now.is_begun)) (sym c.in-Says.is ∙ c.judged-step.ensures)
    ∙ ap (λ l. Change c.in-Says.levels ∷ l)
    (goes_on (plan_of c.args.self.now) c.args.self.now.size c.args.self.now.refusal c.in-Says.now (drop c.args.self.now.offset c.args.sample.now)
    c.set.new.bytes.items c.args.self.now.begun.items more c.requires.goes c.requires.none (c.in_ok-set.ensures ∙ c.split_at.ensures.back))

pub returns-in-Refuses-clause-refuses : goal.returns-in-Refuses-clause-refuses
returns-in-Refuses-clause-refuses c = λ more.
    heard c.args.self.now c.args.sample.now (Refuses c.in-Refuses.fault) more c.requires.goes c.requires.none c.requires.whole
    (omega (arith, c.args.self.now.is_begun)) (sym c.in-Refuses.is ∙ c.judged-step.ensures)

-- its digital channels are those of the sample before
pub returns-then-is_as_before-clause-says : goal.returns-then-is_as_before-clause-says
returns-then-is_as_before-clause-says c = λ more.
    let reader = c.args.self.now in
    let same = c.is_as_before.ensures c.if-is_as_before.true in
    heard reader c.args.sample.now (Goes c.counted-self.result) more c.requires.goes c.requires.none c.requires.whole
    (omega (arith, reader.is_begun))
    (judged_goes (plan_of reader) reader.here c.counted-self.result reader.digital.items c.args.sample.now c.split_at.result.1.now c.split_at.ensures.back
    (same_stays reader.here.count reader.chosen.items reader.digital.items c.split_at.result.1.now same.0 same.1)
    (c.counted-self.ensures ∙ ap (counted reader.here) c.mark_of.ensures))
    ∙ goes_on (plan_of reader) reader.size reader.refusal c.counted-self.result (drop reader.offset c.args.sample.now)
    reader.digital.items reader.begun.items more c.requires.goes c.requires.none (sym same.1 ∙ c.split_at.ensures.back)
