use Rattle.report_run.proofs.ChoiceLaws.{first_runs, second_runs, either_runs_alone}
use Rattle.report_run.proofs.laws.a_chosen_play_runs_alone.Goals as goal

pub returns-clause-first : goal.returns-clause-first
returns-clause-first g c = λ asked. first_runs g.B.Chosen.is_chosen g.A.Play.language g.B.Play.language (g.A.Play.texts asked) (g.B.Play.texts asked) g.A.Play.ends g.B.Play.ends

pub returns-clause-second : goal.returns-clause-second
returns-clause-second g c = λ asked. second_runs g.B.Chosen.is_chosen g.A.Play.language g.B.Play.language (g.A.Play.texts asked) (g.B.Play.texts asked) g.A.Play.ends g.B.Play.ends

pub returns-clause-ran : goal.returns-clause-ran
returns-clause-ran g c = λ asked. either_runs_alone g.B.Chosen.is_chosen g.A.Play.language g.B.Play.language (g.A.Play.texts asked) (g.B.Play.texts asked) g.A.Play.ends g.B.Play.ends _ _ _
