use Rattle.std.proofs.Common.{◌≡◌, ℕ, List}
use Rattle.irig_device.specs.Watched.{device_of, has_failed}
use Rattle.irig_station_scene.specs.StationRuns.{IsStationPlayerAt}
use Rattle.irig_station_scene.specs.StationScenes.{StationScene}
use Rattle.irig_station_scene.proofs.StretchLaws.{HasPassed}
use Rattle.irig_station_scene.proofs.player.StationPlayer.play_stretch.Given as goal

abbrev pub invariant-loop-left_us : goal.invariant-loop-left_us
invariant-loop-left_us g l =
    (has_failed l.output ≡ has_failed l.initial.output)
    × ((x : StationScene) (first : List ℕ) → IsStationPlayerAt {g = g.P.Port} g.L.StationListener.hears (g.L.StationListener.stands_for l.asked) l.initial.self x
    → HasPassed g.L.StationListener.hears (g.L.StationListener.stands_for l.asked) (g.L.StationListener.texts l.asked) (g.met.L.StationListener.reads l.asked) first l.us l.left_us x l.self (g.W.Write.contents (device_of l.initial.output)) (g.W.Write.contents (device_of l.output)))

abbrev pub decreases-loop-left_us : goal.decreases-loop-left_us
decreases-loop-left_us g l = l.left_us
