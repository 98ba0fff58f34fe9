use Rattle.std.proofs.Common.{◌∙◌, ◌++◌, ap, sym, arith}
use Rattle.record_comtrade.proofs.SampleLaws.{nothing_said}
use Rattle.record_samples.specs.Readers.{mixed_to_come}
use Rattle.record_samples.proofs.MixedLaws.{leads_on}
use Rattle.record_samples.proofs.mixed.Mixed.read.Goals as goal

pub returns-then-is_some-clause-says : goal.returns-then-is_some-clause-says
returns-then-is_some-clause-says c =
    leads_on c.args.self.now c.loop-count.self c.next.new.self c.args.bytes.now c.split_at.result.1.now c.loop-count.count c.in_ok-taken.taken.count c.in_ok-taken.taken.levels
    c.loop-count.invariant.2 c.split_at.ensures.back c.in_ok-taken.ensures.says

pub loop-count-preserved : goal.loop-count-preserved
loop-count-preserved c = (
  omega (arith, c.in_ok-taken.ensures.within, c.split_at.ensures.back_len),
  c.in_ok-taken.ensures.goes,
  λ more.
      leads_on c.args.self.now c.loop-count.self c.next.new.self c.args.bytes.now c.split_at.result.1.now c.loop-count.count c.in_ok-taken.taken.count c.in_ok-taken.taken.levels
      c.loop-count.invariant.2 c.split_at.ensures.back c.in_ok-taken.ensures.says more
      ∙ ap (λ l. l ++ mixed_to_come c.next.new.self more) (nothing_said c.in_ok-taken.taken.levels (sym c.if-is_some.ensures)),
)
