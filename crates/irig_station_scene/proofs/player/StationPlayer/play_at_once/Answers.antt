use Rattle.std.proofs.Common.{rules, ◌≡◌, ◌∙◌, sym, subst}
use Rattle.std.specs.Io.KnownBytes.{Appends}
use Rattle.std.specs.Prelude.{string_bytes}
use Rattle.irig_device.specs.Watched.{AppendsPart}
use Rattle.std.proofs.lemmas.Result.{err_from_is_err_and}
use Rattle.irig_station.specs.Stations.{all_let_go}
use Rattle.irig_station_scene.specs.StationRuns.{IsStationPlayerPast}
use Rattle.irig_station_scene.specs.StationScenes.{event_in_scene, standing_in}
use Rattle.irig_station_scene.proofs.EventLaws.{event_fails, writing_fails, event_taken, event_refused}
use Rattle.irig_station_scene.proofs.player.StationPlayer.play_at_once.Goals as goal

pub returns-in_err-refusal-clause-takes : goal.returns-in_err-refusal-clause-takes
returns-in_err-refusal-clause-takes g c =
    let p = err_from_is_err_and c.from_residual.result c.from_residual.ensures.1 in
    let asked = c.args.asked in
    rw (p.1, p.2) (λ x first stands.
    event_fails {g = g.P.Port} g.L.StationListener.hears (g.L.StationListener.stands_for asked) (g.L.StationListener.texts asked) (g.met.L.StationListener.stays asked) x first c.args.event.now c.in_err-refusal.field-0.0 c.play.new.self _)

pub returns-in_err-text-clause-takes : goal.returns-in_err-text-clause-takes
returns-in_err-text-clause-takes g c =
    let p = err_from_is_err_and c.from_residual-in_err-text.result c.from_residual-in_err-text.ensures.1 in
    let asked = c.args.asked in
    rw (p.1, p.2) (λ x first stands.
    event_fails {g = g.P.Port} g.L.StationListener.hears (g.L.StationListener.stands_for asked) (g.L.StationListener.texts asked) (g.met.L.StationListener.stays asked) x first c.args.event.now c.in_err-text.field-0.0 c.hear.new.self _)

pub returns-in_err-write_text-clause-takes : goal.returns-in_err-write_text-clause-takes
returns-in_err-write_text-clause-takes g c =
    let p = err_from_is_err_and c.from_residual-in_err-write_text.result c.from_residual-in_err-write_text.ensures.1 in
    let asked = c.args.asked in
    rw (p.1, p.2) (λ x first stands.
    let played = c.in_ok-refusal.ensures.plays x stands.shown stands.stands in
    let past = subst (λ keeps. IsStationPlayerPast (all_let_go keeps (standing_in x)) c.play.new.self (event_in_scene x c.args.event.now).scene) stands.keeps played.1 in
    let listens = subst (λ l. g.L.StationListener.stands_for asked l x) (sym c.in_ok-refusal.ensures.listener) stands.listener in
    let same : c.as_str.result.now ≡ string_bytes c.in_ok-text.text = search rules in
    writing_fails {g = g.P.Port} g.L.StationListener.hears (g.L.StationListener.stands_for asked) (g.L.StationListener.texts asked) (g.met.L.StationListener.stays asked) x first c.args.event.now
    _ (c.in_ok-text.ensures.said x c.args.event.now listens past) c.in_err-write_text.field-0.0 c.hear.new.self _ _ (subst (AppendsPart _ _) same c.in_err-write_text.ensures.wrote))

pub returns-in-None-clause-takes : goal.returns-in-None-clause-takes
returns-in-None-clause-takes g c = λ x first stands.
    let asked = c.args.asked in
    let played = c.in_ok-refusal.ensures.plays x stands.shown stands.stands in
    let past = subst (λ keeps. IsStationPlayerPast (all_let_go keeps (standing_in x)) c.play.new.self (event_in_scene x c.args.event.now).scene) stands.keeps played.1 in
    let listens = subst (λ l. g.L.StationListener.stands_for asked l x) (sym c.in_ok-refusal.ensures.listener) stands.listener in
    let same : c.as_str.result.now ≡ string_bytes c.in_ok-text.text = search rules in
    event_taken {g = g.P.Port} g.L.StationListener.hears (g.L.StationListener.stands_for asked) (g.L.StationListener.texts asked) (g.met.L.StationListener.stays asked) x first c.args.event.now
    _ (c.in_ok-text.ensures.said x c.args.event.now listens past) _ _ _ (played.0 ∙ c.in-None.is) (c.in_ok-text.ensures.stands x c.args.event.now listens past) (subst (Appends _ _) same c.in_ok-write_text.ensures.wrote)

pub returns-clause-takes : goal.returns-clause-takes
returns-clause-takes g c = λ x first stands.
    let asked = c.args.asked in
    let played = c.in_ok-refusal.ensures.plays x stands.shown stands.stands in
    let past = subst (λ keeps. IsStationPlayerPast (all_let_go keeps (standing_in x)) c.play.new.self (event_in_scene x c.args.event.now).scene) stands.keeps played.1 in
    let listens = subst (λ l. g.L.StationListener.stands_for asked l x) (sym c.in_ok-refusal.ensures.listener) stands.listener in
    let same : c.as_str.result.now ≡ string_bytes c.in_ok-text.text = search rules in
    event_refused {g = g.P.Port} g.L.StationListener.hears (g.L.StationListener.stands_for asked) (g.L.StationListener.texts asked) (g.met.L.StationListener.stays asked) x first c.args.event.now
    _ (c.in_ok-text.ensures.said x c.args.event.now listens past) c.in-Some.refusal _ _ _ (played.0 ∙ c.in-Some.is) (c.in_ok-text.ensures.stands x c.args.event.now listens past) (subst (Appends _ _) same c.in_ok-write_text.ensures.wrote)
