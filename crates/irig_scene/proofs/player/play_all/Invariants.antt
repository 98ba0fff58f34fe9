use Rattle.std.proofs.Common.{None, Some, take}
use Rattle.irig_scene.specs.Scene.{Scene}
use Rattle.irig_scene.specs.ListenerRuns.{PlayedFor, IsStageAt, text_in}
use Rattle.irig_scene.proofs.player.play_all.Given as goal

abbrev pub invariant-loop-event : goal.invariant-loop-event
invariant-loop-event g l =
    (x : Scene) → IsStageAt (g.L.Listener.stands_for l.asked) l.initial.stage x
    → PlayedFor (IsStageAt (g.L.Listener.stands_for l.asked)) (g.L.Listener.texts l.asked) x (take l.event-index l.events) l.stage None (Some (text_in l.initial.stage)) (Some (text_in l.stage))
