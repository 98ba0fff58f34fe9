use Rattle.std.proofs.Common.{rules}
use Rattle.std.proofs.lemmas.List.{nil_from_length}
use Rattle.std.proofs.lemmas.Result.{err_from_is_err_and}
use Rattle.report_run.proofs.LineLaws.{one_line}
use Rattle.report_run.proofs.RestLaws.{last_empty, last_goes, last_ends}
use Rattle.report_run.proofs.StartLaws.{any_first, heard_none, heard_last, heard_last_refused}
use Rattle.report_run.proofs.line.run_last.Goals as goal

pub returns-then-is_empty-clause-runs : goal.returns-then-is_empty-clause-runs
returns-then-is_empty-clause-runs g c = λ at first stands here.
    last_empty g.T.Play.language g.T.Play.ends (g.T.Play.texts c.args.asked) _ _ _ first at _ _ (nil_from_length _ (search rules)) (c.end.ensures.ends at first stands)

pub returns-in_err-run_line-clause-runs : goal.returns-in_err-run_line-clause-runs
returns-in_err-run_line-clause-runs g c =
    let p = err_from_is_err_and c.from_residual.result c.from_residual.ensures.1 in
    rw (p.1, p.2) (λ at first stands here. last_ends g.T.Play.language g.T.Play.ends (g.T.Play.texts c.args.asked) _ _ _ _ first at _ _ (search rules) c.requires.whole (c.in_err-run_line.ensures.runs at first stands here))

pub returns-clause-runs : goal.returns-clause-runs
returns-clause-runs g c = λ at first stands here.
    let took = c.in_ok-run_line.ensures.runs at first stands here in
    last_goes g.T.Play.language g.T.Play.ends (g.T.Play.stands_for c.args.asked) (g.T.Play.texts c.args.asked) _ _ _ first at _ _ _ _ (search rules) c.requires.whole c.requires.number took (c.end-2.ensures.ends _ first took.stands)

pub returns-then-is_empty-clause-heard : goal.returns-then-is_empty-clause-heard
returns-then-is_empty-clause-heard g c = λ at stands.
    heard_none _ g.T.Play.language g.T.Play.entries (g.T.Play.stands_for c.args.asked) g.T.Play.counts _ _ _ _ at (nil_from_length _ (search rules)) stands

pub returns-in_err-run_line-clause-heard : goal.returns-in_err-run_line-clause-heard
returns-in_err-run_line-clause-heard g c =
    let p = err_from_is_err_and c.from_residual.result c.from_residual.ensures.1 in
    rw (p.1, p.2) (λ at stands. heard_last_refused g.row.T-Outcome.Denot g.T.Play.language g.T.Play.entries (g.T.Play.stands_for c.args.asked) g.T.Play.counts _ _ _ _ at (one_line _ c.requires.whole (search rules)) (c.in_err-run_line.ensures.leaves at stands))

pub returns-clause-heard : goal.returns-clause-heard
returns-clause-heard g c = λ at stands.
    let took = c.in_ok-run_line.ensures.runs at _ stands (any_first at _) in
    heard_last _ g.T.Play.language g.T.Play.entries (g.T.Play.stands_for c.args.asked) g.T.Play.counts _ _ _ _ at (one_line _ c.requires.whole (search rules)) took.refused took.stands
