use Rattle.std.proofs.Common.{subst}
use Rattle.report_run.specs.Runs.{IsAt}
use Rattle.report_run.proofs.RestLaws.{ends_with, ends_in_part, ends_without}
use Rattle.report_run.proofs.line.end.Goals as goal

pub returns-in-None-clause-ends : goal.returns-in-None-clause-ends
returns-in-None-clause-ends g c = λ at first stands.
    ends_without g.T.Play.language g.T.Play.ends (g.T.Play.stands_for c.args.asked) (g.T.Play.texts c.args.asked) _ _ _ first at _ _ (subst (λ r. IsAt (g.T.Play.stands_for c.args.asked) r at) c.in-None.is stands) c.refuse.ensures.wrote

pub returns-in-Ok-clause-ends : goal.returns-in-Ok-clause-ends
returns-in-Ok-clause-ends g c = λ at first stands.
    ends_with g.T.Play.language g.T.Play.ends (g.T.Play.stands_for c.args.asked) (g.T.Play.texts c.args.asked) _ _ _ _ first at _ _ (subst (λ r. IsAt (g.T.Play.stands_for c.args.asked) r at) c.in-Some.is stands) (c.outcome.ensures c.args.asked) c.in-Ok.ensures.wrote

pub returns-in-Err-clause-ends : goal.returns-in-Err-clause-ends
returns-in-Err-clause-ends g c =
    rw c.from.ensures (λ at first stands. ends_in_part g.T.Play.language g.T.Play.ends (g.T.Play.stands_for c.args.asked) (g.T.Play.texts c.args.asked) _ _ _ _ first at _ _ (subst (λ r. IsAt (g.T.Play.stands_for c.args.asked) r at) c.in-Some.is stands) c.in-Err.ensures.wrote)
