use Rattle.irig_main.proofs.play.write_wanted.Goals as goal

pub returns-in-Log-clause-wrote : goal.returns-in-Log-clause-wrote
returns-in-Log-clause-wrote g c = rw c.in-Log.is (c.run_scenario-answer.result, c.end_of.ensures, c.run_scenario-answer.ensures.runs.ran)

pub returns-in-Flat-clause-wrote : goal.returns-in-Flat-clause-wrote
returns-in-Flat-clause-wrote g c = rw c.in-Flat.is (c.flatten-answer.result, c.end_of-in-Flat.ensures, (c.flatten-answer.ensures.same_log, c.flatten-answer.ensures.ran))

pub returns-in-Blame-clause-wrote : goal.returns-in-Blame-clause-wrote
returns-in-Blame-clause-wrote g c = rw c.in-Blame.is (c.blame-answer.result, c.end_of-in-Blame.ensures, c.blame-answer.ensures.ran)
