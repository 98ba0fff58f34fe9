use Rattle.std.proofs.Common.{rules, ◌∙◌, sym}
use Rattle.std.proofs.lemmas.Result.{err_from_is_err_and}
use Rattle.report_run.proofs.TakenLaws.{following_takes, beginning_takes, beginning_stops}
use Rattle.report_run.proofs.line.take_line.Goals as goal

pub returns-in-Some-clause-takes : goal.returns-in-Some-clause-takes
returns-in-Some-clause-takes g c =
    following_takes g.T.Play.language (g.T.Play.stands_for c.args.asked) (g.T.Play.texts c.args.asked) _ _ _ _ _ _ _ _ c.in-Some.is (search rules) c.requires (sym c.is_blank.ensures ∙ c.if-is_blank.false) c.take.ensures.takes

pub returns-in_err-begun-in-None-clause-takes : goal.returns-in_err-begun-in-None-clause-takes
returns-in_err-begun-in-None-clause-takes g c =
    let p = err_from_is_err_and c.from_residual.result c.from_residual.ensures.1 in
    rw (p.1, p.2) (beginning_stops g.T.Play.language (g.T.Play.stands_for c.args.asked) (g.T.Play.texts c.args.asked) _ _ _ _ _ _ c.in-None.is (search rules) c.requires (sym c.is_blank.ensures ∙ c.if-is_blank.false) c.in_err-begun-in-None.ensures.begins)

pub returns-in_ok-begun-in-None-clause-takes : goal.returns-in_ok-begun-in-None-clause-takes
returns-in_ok-begun-in-None-clause-takes g c =
    beginning_takes g.T.Play.language (g.T.Play.stands_for c.args.asked) (g.T.Play.texts c.args.asked) _ _ _ _ _ _ c.in-None.is (search rules) c.requires (sym c.is_blank.ensures ∙ c.if-is_blank.false) c.in_ok-begun-in-None.ensures.begins
