use Rattle.std.proofs.Common.{◌∙◌, ◌++◌, ap, sym, arith}
use Rattle.std.proofs.Math.Seq.{take-length}
use Rattle.record_comtrade.specs.Data.{plan_of, to_come, unless_refused}
use Rattle.record_comtrade.specs.Samples.{said_from, samples_from}
use Rattle.record_comtrade.proofs.SampleLaws.{opens}
use Rattle.record_comtrade.proofs.data.Data.next.Goals as goal

pub returns-then-bytes-count-clause-says : goal.returns-then-bytes-count-clause-says
returns-then-bytes-count-clause-says c = λ more.
    ap (λ b. to_come c.args.self.now (b ++ more)) (take-length c.args.bytes.now)
    ∙ ap (λ s. unless_refused c.args.self.now.refusal (said_from (plan_of c.args.self.now) c.args.self.now.here c.args.self.now.digital.items s))
    (opens c.args.self.now.size c.args.self.now.begun.items c.args.bytes.now more (omega (arith, c.if-bytes-count.true, c.room-count.ensures))
    ∙ ap (λ o. samples_from c.args.self.now.size o more) (sym c.in_ok-extend_from_slice.ensures.items))
