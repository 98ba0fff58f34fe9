use Rattle.std.proofs.Common.{◌∙◌}
use Rattle.report_found.proofs.TickLaws.{second_is, no_second, next_is_valid}
use Rattle.report_found.proofs.tick.second_after.Goals as goal

pub returns-then-valid-clause-exact : goal.returns-then-valid-clause-exact
returns-then-valid-clause-exact c = c.next.ensures ∙ second_is c.args.truth c.in_ok-claim.claim c.valid.result c.in_ok-claim.was c.valid.ensures c.if-valid.true

pub returns-then-valid-clause-valid : goal.returns-then-valid-clause-valid
returns-then-valid-clause-valid c = next_is_valid c.next.result c.in_ok-claim.claim.at c.in_ok-claim.claim.mark (c.valid.ensures.0 c.if-valid.true) c.next.ensures

pub returns-else-valid-clause-exact : goal.returns-else-valid-clause-exact
returns-else-valid-clause-exact c = no_second c.args.truth c.in_ok-claim.claim c.valid.result c.in_ok-claim.was c.valid.ensures c.if-valid.false
