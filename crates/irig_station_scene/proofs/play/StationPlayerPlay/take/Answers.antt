use Rattle.std.proofs.lemmas.Result.{err_from_is_err_and}
use Rattle.irig_station_scene.proofs.EventLaws.{line_stops, of_event}
use Rattle.irig_station_scene.proofs.play.StationPlayerPlay.take.Goals as goal

pub returns-in_err-event-clause-takes : goal.returns-in_err-event-clause-takes
returns-in_err-event-clause-takes g c =
    let p = err_from_is_err_and c.from_residual.result c.from_residual.ensures.1 in
    let asked = c.args.asked in
    rw (p.1, p.2) (λ x first stands.
    line_stops {g = g.P.Port} g.L.StationListener.hears (g.L.StationListener.stands_for asked) (g.L.StationListener.texts asked) (g.met.L.StationListener.stays asked) x first _ _ _ _ (c.in_err-event.ensures asked x stands) stands)

pub returns-clause-takes : goal.returns-clause-takes
returns-clause-takes g c = λ x first stands.
    let asked = c.args.asked in
    of_event {g = g.P.Port} g.L.StationListener.hears (g.L.StationListener.stands_for asked) (g.L.StationListener.texts asked) (g.met.L.StationListener.stays asked) x first _ c.in_ok-event.event (c.in_ok-event.ensures asked x stands)
    _ _ _ _ (c.play_event.ensures.takes x first stands)
