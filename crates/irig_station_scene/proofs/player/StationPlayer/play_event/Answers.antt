use Rattle.irig_station_scene.proofs.StretchLaws.{short}
use Rattle.irig_station_scene.proofs.player.StationPlayer.play_event.Goals as goal

pub play_at_once-requires : goal.play_at_once-requires
play_at_once-requires g c = short c.args.event.now (λ us is. c.in_default.not-Pass us is)
