use Rattle.std.proofs.Common.{subst}
use Rattle.report_run.specs.Runs.{IsAt}
use Rattle.report_run.proofs.RestLaws.{stops_with, fails_with}
use Rattle.report_run.proofs.line.stop.Goals as goal

pub returns-in-Ok-clause-wrote : goal.returns-in-Ok-clause-wrote
returns-in-Ok-clause-wrote g c = λ at stands.
    stops_with g.T.Play.language g.T.Play.ends (g.T.Play.stands_for c.args.asked) (g.T.Play.texts c.args.asked) _ _ _ _ at _ _ _ (subst (λ r. IsAt (g.T.Play.stands_for c.args.asked) r at) c.in-Some.is stands) c.in-Ok.ensures.wrote c.refuse-in-Ok.ensures.wrote

pub returns-in-Err-clause-wrote : goal.returns-in-Err-clause-wrote
returns-in-Err-clause-wrote g c =
    rw c.from.ensures (λ at stands. fails_with g.T.Play.language g.T.Play.ends (g.T.Play.stands_for c.args.asked) (g.T.Play.texts c.args.asked) _ _ _ _ at _ _ (subst (λ r. IsAt (g.T.Play.stands_for c.args.asked) r at) c.in-Some.is stands) c.in-Err.ensures.wrote)
