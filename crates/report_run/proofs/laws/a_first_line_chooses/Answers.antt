use Rattle.report_run.proofs.ChoiceLaws.{first_means, second_means, first_text, second_text}
use Rattle.report_run.proofs.laws.a_first_line_chooses.Goals as goal

pub returns-clause-first_means : goal.returns-clause-first_means
returns-clause-first_means g c = first_means g.B.Chosen.is_chosen g.A.Play.language g.B.Play.language

pub returns-clause-second_means : goal.returns-clause-second_means
returns-clause-second_means g c = second_means g.B.Chosen.is_chosen g.A.Play.language g.B.Play.language

pub returns-clause-first_text : goal.returns-clause-first_text
returns-clause-first_text g c = λ asked. first_text g.B.Chosen.is_chosen g.A.Play.language g.B.Play.language (g.A.Play.texts asked) (g.B.Play.texts asked)

pub returns-clause-second_text : goal.returns-clause-second_text
returns-clause-second_text g c = λ asked. second_text g.B.Chosen.is_chosen g.A.Play.language g.B.Play.language (g.A.Play.texts asked) (g.B.Play.texts asked)
