use Rattle.report_blame.proofs.RunLaws.{ran_blame}
use Rattle.report_blame.proofs.run.blame.Goals as goal

pub returns-then-is_some-clause-ran : goal.returns-then-is_some-clause-ran
returns-then-is_some-clause-ran g c =
    let ran = c.listen_to_scenario-answer.ensures.heard.ran in
    ran_blame _ _ _ _ _ _ _ ran.of_input ran.ran

pub returns-else-is_some-clause-ran : goal.returns-else-is_some-clause-ran
returns-else-is_some-clause-ran g c =
    let ran = c.listen_to_scenario-answer.ensures.heard.ran in
    ran_blame _ _ _ _ _ _ _ ran.of_input ran.ran
