use Rattle.std.proofs.Common.{rules, Ok, Err}
use Rattle.std.proofs.lemmas.Result.{err_from_is_err_and}
use Rattle.irig_device.specs.Watched.{device_of}
use Rattle.report_run.proofs.EitherLaws.{first_begins, second_begins}
use Rattle.report_run.proofs.either_play.EitherPlay.begin.Goals as goal

pub returns-in_ok-begin-clause-begins : goal.returns-in_ok-begin-clause-begins
returns-in_ok-begin-clause-begins g c =
    second_begins g.B.Chosen.is_chosen g.A.Play.language g.B.Play.language (g.A.Play.stands_for c.args.asked) (g.B.Play.stands_for c.args.asked) (g.A.Play.texts c.args.asked) (g.B.Play.texts c.args.asked) c.args.line.now (Ok c.in_ok-begin.field-0) _ _ (search rules) c.in_ok-begin.ensures.begins

pub returns-in_err-begin-clause-begins : goal.returns-in_err-begin-clause-begins
returns-in_err-begin-clause-begins g c =
    let p = err_from_is_err_and c.from_residual.result c.from_residual.ensures.1 in
    rw (p.1, p.2) (second_begins g.B.Chosen.is_chosen g.A.Play.language g.B.Play.language (g.A.Play.stands_for c.args.asked) (g.B.Play.stands_for c.args.asked) (g.A.Play.texts c.args.asked) (g.B.Play.texts c.args.asked) c.args.line.now (Err c.in_err-begin.field-0.0) (g.W.Write.contents (device_of c.args.output.now)) (g.W.Write.contents (device_of c.begin.new.output)) (search rules) c.in_err-begin.ensures.begins)

pub returns-in_ok-begin-2-clause-begins : goal.returns-in_ok-begin-2-clause-begins
returns-in_ok-begin-2-clause-begins g c =
    first_begins g.B.Chosen.is_chosen g.A.Play.language g.B.Play.language (g.A.Play.stands_for c.args.asked) (g.B.Play.stands_for c.args.asked) (g.A.Play.texts c.args.asked) (g.B.Play.texts c.args.asked) c.args.line.now (Ok c.in_ok-begin-2.field-0) _ _ (search rules) c.in_ok-begin-2.ensures.begins

pub returns-in_err-begin-2-clause-begins : goal.returns-in_err-begin-2-clause-begins
returns-in_err-begin-2-clause-begins g c =
    let p = err_from_is_err_and c.from_residual-in_err-begin-2.result c.from_residual-in_err-begin-2.ensures.1 in
    rw (p.1, p.2) (first_begins g.B.Chosen.is_chosen g.A.Play.language g.B.Play.language (g.A.Play.stands_for c.args.asked) (g.B.Play.stands_for c.args.asked) (g.A.Play.texts c.args.asked) (g.B.Play.texts c.args.asked) c.args.line.now (Err c.in_err-begin-2.field-0.0) (g.W.Write.contents (device_of c.args.output.now)) (g.W.Write.contents (device_of c.begin-else-is_second.new.output)) (search rules) c.in_err-begin-2.ensures.begins)
