use Rattle.report_run.proofs.RestLaws.{line_stops, line_fails}
use Rattle.report_run.proofs.StartLaws.{any_first, leaves_refused, leaves_failed}
use Rattle.report_run.proofs.line.run_line.Goals as goal

pub returns-in-Err-Refused-clause-runs : goal.returns-in-Err-Refused-clause-runs
returns-in-Err-Refused-clause-runs g c = λ at first stands here.
    line_stops g.T.Play.language g.T.Play.ends (g.T.Play.stands_for c.args.asked) (g.T.Play.texts c.args.asked) _ _ _ _ first at _ _ _ _ _ c.in-Err-Refused.field-0-is (c.in-Err-Refused.ensures.takes at first stands here) c.stop.ensures.wrote

pub returns-in-Err-Failed-clause-runs : goal.returns-in-Err-Failed-clause-runs
returns-in-Err-Failed-clause-runs g c =
    rw c.from.ensures (λ at first stands here. line_fails g.T.Play.language g.T.Play.ends (g.T.Play.stands_for c.args.asked) (g.T.Play.texts c.args.asked) (g.met.T.Play.stays c.args.asked) _ _ _ _ first at _ _ _ c.in-Err-Failed.field-0-is (c.in-Err-Failed.ensures.takes at first stands here))

pub returns-in-Err-Refused-clause-leaves : goal.returns-in-Err-Refused-clause-leaves
returns-in-Err-Refused-clause-leaves g c = λ at stands.
    leaves_refused g.T.Play.language (g.T.Play.stands_for c.args.asked) (g.T.Play.texts c.args.asked) _ _ _ at _ _ _ _ _ c.in-Err-Refused.field-0-is (c.in-Err-Refused.ensures.takes at _ stands (any_first at _))

pub returns-in-Err-Failed-clause-leaves : goal.returns-in-Err-Failed-clause-leaves
returns-in-Err-Failed-clause-leaves g c =
    rw c.from.ensures (λ at stands. leaves_failed g.T.Play.language (g.T.Play.stands_for c.args.asked) _ _ _)
