use Rattle.std.proofs.Common.{◌∙◌, ap}
use Rattle.record_comtrade.specs.Data.{plan_of}
use Rattle.record_comtrade.specs.Samples.{counted, high_of}
use Rattle.record_comtrade.specs.Times.{time_of}
use Rattle.record_comtrade.proofs.SampleLaws.{judged_goes, judged_says}
use Rattle.record_comtrade.proofs.data.Data.judged.Goals as goal

pub returns-then-stays : goal.returns-then-stays
returns-then-stays c =
    judged_goes (plan_of c.args.self.now) c.args.self.now.here c.counted-now.result c.args.self.now.digital.items c.args.sample.now c.split_at.result.1.now
    c.split_at.ensures.back c.if-stays.ensures (c.counted-now.ensures ∙ ap (counted c.args.self.now.here) c.mark_of.ensures)

pub returns : goal.returns
returns c =
    judged_says (plan_of c.args.self.now) c.args.self.now.here c.counted-now.result c.args.self.now.digital.items c.args.sample.now c.split_at.result.1.now
    c.high_of-high.result c.time_of-time.result c.said.result
    c.split_at.ensures.back c.if-stays.ensures (c.counted-now.ensures ∙ ap (counted c.args.self.now.here) c.mark_of.ensures)
    (c.high_of-high.ensures ∙ ap (λ l. high_of l c.split_at.result.1.now) c.as_slice-chosen.ensures.value)
    (c.time_of-time.ensures ∙ ap (λ l. time_of l c.args.self.now.clock c.counted-now.result.first c.counted-now.result.here) c.as_slice-rates.ensures.value)
    c.said.ensures
