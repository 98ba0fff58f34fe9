use Rattle.std.proofs.Common.{ap}
use Rattle.std.proofs.lemmas.Result.{err_from_is_err_and}
use Rattle.report_log.specs.Text.{texts_of}
use Rattle.irig_scene.proofs.PlayerLaws.{step_takes, step_stops}
use Rattle.irig_scene.proofs.player.Stage.play.Goals as goal

pub returns-in-Ok : goal.returns-in-Ok
returns-in-Ok g c =
    step_takes {g = g.P.Port} (g.L.Listener.stands_for c.args.asked) (g.L.Listener.texts c.args.asked) c.args.self.now c.step.new.self c.plant-plant.result.now (texts_of c.names-names.result.now.keys) c.push_event.new.self c.push_event.new.text c.args.event.now c.log.result.now
    c.plant-plant.ensures (ap (λ n. texts_of n.keys) c.names-names.ensures.names) c.in_ok-step.ensures c.log.ensures.entries c.in-Ok.ensures.said c.in-Ok.ensures.stands

pub returns-in_err-step : goal.returns-in_err-step
returns-in_err-step g c =
    let p = err_from_is_err_and c.from_residual.result c.from_residual.ensures.1 in
    rw (p.1, p.2) (step_stops {g = g.P.Port} (g.L.Listener.stands_for c.args.asked) (g.L.Listener.texts c.args.asked) c.args.self.now _ c.args.event.now _ c.in_err-step.ensures)
