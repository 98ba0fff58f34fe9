use Rattle.std.proofs.Common.{below_more}
use Rattle.irig_simulated.proofs.simulated.Simulated.are_quiet.Goals as goal

pub loop-line-preserved : goal.loop-line-preserved
loop-line-preserved g c = below_more _ _ c.loop-line.invariant (c.is_quiet_on.ensures c.if-not-is_quiet_on.false)
