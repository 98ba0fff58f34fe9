use Rattle.std.proofs.Common.{◌≡◌, ◌<◌, length}
use Rattle.irig_device.specs.Watched.{device_of, has_failed}
use Rattle.irig_plant.specs.WholeSecond.{times}
use Rattle.irig_scene.specs.Scene.{Scene}
use Rattle.irig_scene.specs.Scene.{second_in}
use Rattle.irig_scene.specs.ListenerRuns.{IsPlayerAt, HoldsTextOf, held_by, max_held}
use Rattle.irig_scene.proofs.player.Player.play_seconds.Given as goal

abbrev pub invariant-loop : goal.invariant-loop
invariant-loop g l =
    (has_failed l.output ≡ has_failed l.initial.output)
    × ((x : Scene) → IsPlayerAt (g.L.Listener.stands_for l.asked) l.initial.self x
    → HoldsTextOf (IsPlayerAt (g.L.Listener.stands_for l.asked)) (g.L.Listener.texts l.asked) x (times l.counter (second_in x.plan)) l.self (held_by l.self) (g.W.Write.contents (device_of l.initial.output)) (g.W.Write.contents (device_of l.output)))
    × (length (held_by l.self) < max_held)
