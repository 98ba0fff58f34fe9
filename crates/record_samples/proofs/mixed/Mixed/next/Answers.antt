use Rattle.std.proofs.Common.{◌∙◌, ◌++◌, ap, sym, arith}
use Rattle.std.proofs.Math.Seq.{take-length}
use Rattle.record_comtrade.specs.Samples.{samples_from}
use Rattle.record_comtrade.proofs.SampleLaws.{opens}
use Rattle.record_samples.specs.Readers.{mixed_says, mixed_to_come}
use Rattle.record_samples.proofs.mixed.Mixed.next.Goals as goal

pub returns-then-bytes-count-clause-says : goal.returns-then-bytes-count-clause-says
returns-then-bytes-count-clause-says c = λ more.
    ap (λ b. mixed_to_come c.args.self.now (b ++ more)) (take-length c.args.bytes.now)
    ∙ ap (mixed_says c.args.self.now)
    (opens c.args.self.now.size c.args.self.now.begun.items c.args.bytes.now more (omega (arith, c.if-bytes-count.true, c.room-count.ensures))
    ∙ ap (λ o. samples_from c.args.self.now.size o more) (sym c.in_ok-extend_from_slice.ensures.items))
