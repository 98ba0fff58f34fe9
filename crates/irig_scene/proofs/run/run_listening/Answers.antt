use Rattle.std.proofs.Common.{◌∙◌}
use Rattle.report_run.proofs.RunLaws.{ran_to}
use Rattle.irig_scene.specs.ListenerRuns.{IsPlayerAt}
use Rattle.irig_scene.specs.Run.{Ends}
use Rattle.irig_scene.specs.Scene.{scenario, entries_in}
use Rattle.irig_scene.specs.Texts.{of_scenes}
use Rattle.irig_scene.proofs.ExplainedLaws.{explained}
use Rattle.irig_scene.proofs.run.run_listening.Goals as goal

pub returns-clause-ran : goal.returns-clause-ran
returns-clause-ran g c = ran_to scenario Ends entries_in (IsPlayerAt {g = g.P.Port} (g.L.Listener.stands_for c.args.asked)) (g.L.Listener.stands_for c.args.asked) _ _ (c.end_player-listener.ensures.listener c.args.asked) g.L.Listener.counts (of_scenes (g.L.Listener.texts c.args.asked)) _ _ _ _ _ _ c.run_lines-answer.ensures.ran

pub returns-clause-refused : goal.returns-clause-refused
returns-clause-refused g c = explained _ _ (c.end_player-listener.ensures.refused ∙ c.refusal_of.ensures)
