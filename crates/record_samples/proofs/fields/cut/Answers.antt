use Rattle.std.proofs.Common.{◌∙◌, ◌-◌, ◌+◌, ap, sym, arith}
use Rattle.record_samples.specs.Rows.{from_field}
use Rattle.record_samples.proofs.FieldLaws.{from_last, from_step}
use Rattle.record_samples.proofs.fields.cut.Goals as goal

pub returns-in-None-clause-text : goal.returns-in-None-clause-text
returns-in-None-clause-text c =
    sym (from_last c.args.place c.loop-passed.passed c.loop-passed.rest.now c.loop-passed-test.true c.in-None.ensures.none) ∙ c.loop-passed.invariant.0

pub loop-passed-preserved : goal.loop-passed-preserved
loop-passed-preserved c = (
  ap (from_field (c.args.place - (c.loop-passed.passed + 1))) c.in-Some.ensures.some
      ∙ sym (from_step c.args.place c.loop-passed.passed c.loop-passed.rest.now c.loop-passed-test.true) ∙ c.loop-passed.invariant.0,
  omega (arith, c.in-Some.ensures.fewer, c.loop-passed.invariant.1),
)
