use Rattle.irig_scene.proofs.PlayerLaws.{listener_stands}
use Rattle.irig_scene.proofs.run.end_player.Goals as goal

pub returns-in-Some-clause-listener : goal.returns-in-Some-clause-listener
returns-in-Some-clause-listener g c = λ asked at stands.
    listener_stands (g.L.Listener.stands_for asked) _ _ _ at c.in-Some.is c.end-listener.ensures.listener stands
