use Rattle.irig_scene.specs.Listening.{history_past}
use Rattle.irig_scene.proofs.player.Player.audit.Goals as goal

pub returns : goal.returns
returns g c = λ asked x at. c.audit.ensures (history_past at.stage.gone x) (rw c.plant.ensures at.stage.plant)
