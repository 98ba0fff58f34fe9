use Rattle.std.proofs.Common.{◌∙◌}
use Rattle.record_cells.proofs.ScaleLaws.{lower-step}
use Rattle.record_analog.proofs.factor.lowered.Goals as goal

pub loop-place-preserved : goal.loop-place-preserved
loop-place-preserved c = lower-step c.loop-place.number c.args.power c.loop-place._place c.loop-place-test.true ∙ c.loop-place.invariant
