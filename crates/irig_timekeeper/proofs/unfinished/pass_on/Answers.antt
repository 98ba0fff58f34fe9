use Rattle.std.proofs.Common.{[]}
use Rattle.irig_timekeeper.proofs.unfinished.pass_on.Goals as goal

pub returns-clause-heard : goal.returns-clause-heard
returns-clause-heard g c r s heard = c.pulses.ensures r [] (c.clear.ensures r s heard)
