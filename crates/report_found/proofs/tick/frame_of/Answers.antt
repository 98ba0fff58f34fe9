use Rattle.report_found.proofs.TickLaws.{frame_is, no_frame}
use Rattle.report_found.proofs.tick.frame_of.Goals as goal

pub returns-then-valid-clause-exact : goal.returns-then-valid-clause-exact
returns-then-valid-clause-exact c = frame_is c.args.truth c.in_ok-claim.claim c.valid.result c.in_ok-claim.was c.valid.ensures c.if-valid.true

pub returns-else-valid-clause-exact : goal.returns-else-valid-clause-exact
returns-else-valid-clause-exact c = no_frame c.args.truth c.in_ok-claim.claim c.valid.result c.in_ok-claim.was c.valid.ensures c.if-valid.false
