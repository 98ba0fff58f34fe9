use Rattle.std.proofs.lemmas.Result.{err_from_is_err_and}
use Rattle.irig_scene.specs.ListenerRuns.{IsPlayerAt}
use Rattle.irig_scene.proofs.TakenLaws.{acted_takes, event_stops}
use Rattle.irig_scene.proofs.play.PlayerPlay.take.Goals as goal

pub returns-in_err-command-clause-takes : goal.returns-in_err-command-clause-takes
returns-in_err-command-clause-takes g c =
    let p = err_from_is_err_and c.from_residual.result c.from_residual.ensures.1 in
    rw (p.1, p.2) (λ x first stands. event_stops (IsPlayerAt {g = g.P.Port} (g.L.Listener.stands_for c.args.asked)) (g.L.Listener.texts c.args.asked) _ x _ first _ _ (c.in_err-command.ensures.said c.args.asked x stands) (c.in_err-command.ensures.stands c.args.asked x stands))

pub returns-clause-takes : goal.returns-clause-takes
returns-clause-takes g c = λ x first stands.
    acted_takes (IsPlayerAt {g = g.P.Port} (g.L.Listener.stands_for c.args.asked)) (g.L.Listener.texts c.args.asked) _ x _ _ first _ _ _ (c.in_ok-command.ensures.said c.args.asked x stands) (c.play_command.ensures.plays x (c.in_ok-command.ensures.stands c.args.asked x stands))
