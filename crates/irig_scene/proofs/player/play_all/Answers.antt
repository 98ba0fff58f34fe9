use Rattle.std.proofs.Common.{◌≡◌, ◌∷◌, [], ◌+◌, None, Some, take, drop, subst, arith}
use Rattle.std.proofs.lemmas.List.{take_all}
use Rattle.std.proofs.lemmas.Result.{err_from_is_err_and}
use Rattle.irig_scene.specs.Scene.{after_events}
use Rattle.irig_scene.specs.ListenerRuns.{PlayedFor, IsStageAt, text_in}
use Rattle.irig_scene.proofs.PlayedLaws.{one_more, all_parts, begins_with, goes_on_to}
use Rattle.irig_scene.proofs.PlayerLaws.{ends_adding}
use Rattle.irig_scene.proofs.player.play_all.Goals as goal

pub loop-event-init : goal.loop-event-init
loop-event-init g c = λ x at. begins_with (IsStageAt (g.L.Listener.stands_for c.args.asked)) (g.L.Listener.texts c.args.asked) x _ _ at

pub loop-event-preserved : goal.loop-event-preserved
loop-event-preserved g c = λ x at.
    let i = c.loop-event.event-index in
    let events = c.args.events.now in
    let e = c.event-item.result in
    let was = c.loop-event.invariant x at in
    goes_on_to (IsStageAt (g.L.Listener.stands_for c.args.asked)) (g.L.Listener.texts c.args.asked) x (take i events) (e ∷ []) (take (i + 1) events) _ _ _ _ _ (one_more events i e c.event-item.is c.loop-event-test.true) was
    (c.in_ok-play.ensures (after_events x (take i events)) was.stands)

pub returns-in_err-play : goal.returns-in_err-play
returns-in_err-play g c =
    let p = err_from_is_err_and c.from_residual.result c.from_residual.ensures.1 in
    let i = c.loop-event.event-index in
    let events = c.args.events.now in
    let e = c.event-item.result in
    rw (p.1, p.2) (ends_adding (IsStageAt (g.L.Listener.stands_for c.args.asked)) (g.L.Listener.texts c.args.asked) _ (take i events) (e ∷ []) (drop (i + 1) events) events _ _ _ _ _ _ (all_parts events i e c.event-item.is c.loop-event-test.true)
    c.loop-event.invariant c.in_err-play.ensures)

pub returns : goal.returns
returns g c = λ x at.
    let events = c.args.events.now in
    let all : take c.loop-event.event-index events ≡ events = take_all c.loop-event.event-index events (omega (arith, c.loop-event-test.false)) in
    subst (λ es. PlayedFor (IsStageAt (g.L.Listener.stands_for c.args.asked)) (g.L.Listener.texts c.args.asked) x es c.loop-event.stage None (Some (text_in c.args.stage.now)) (Some (text_in c.loop-event.stage))) all
    (c.loop-event.invariant x at)
