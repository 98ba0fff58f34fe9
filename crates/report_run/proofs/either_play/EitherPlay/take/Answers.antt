use Rattle.std.proofs.Common.{refl}
use Rattle.report_run.proofs.EitherLaws.{first_takes, second_takes}
use Rattle.report_run.proofs.either_play.EitherPlay.take.Goals as goal

pub returns-in-First-clause-takes : goal.returns-in-First-clause-takes
returns-in-First-clause-takes g c =
    first_takes g.B.Chosen.is_chosen g.A.Play.language g.B.Play.language (g.A.Play.stands_for c.args.asked) (g.B.Play.stands_for c.args.asked) (g.A.Play.texts c.args.asked) (g.B.Play.texts c.args.asked) _ _ _ _ _ _ _ _ c.in-First.is refl c.take.ensures.takes

pub returns-in-Second-clause-takes : goal.returns-in-Second-clause-takes
returns-in-Second-clause-takes g c =
    second_takes g.B.Chosen.is_chosen g.A.Play.language g.B.Play.language (g.A.Play.stands_for c.args.asked) (g.B.Play.stands_for c.args.asked) (g.A.Play.texts c.args.asked) (g.B.Play.texts c.args.asked) _ _ _ _ _ _ _ _ c.in-Second.is refl c.take-in-Second.ensures.takes
