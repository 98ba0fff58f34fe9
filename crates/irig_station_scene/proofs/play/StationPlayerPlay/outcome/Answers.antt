use Rattle.std.proofs.Common.{refl}
use Rattle.irig_station_scene.proofs.play.StationPlayerPlay.outcome.Goals as goal

pub returns : goal.returns
returns g c = λ asked x stands. record { lines = refl; audit = c.audit.ensures asked x stands }
