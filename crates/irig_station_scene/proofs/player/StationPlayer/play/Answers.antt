use Rattle.std.proofs.Common.{◌∙◌, ap, sym}
use Rattle.std.specs.Prelude.{option_and_then}
use Rattle.irig_station.specs.Stations.{all_let_go}
use Rattle.irig_station_scene.specs.StationScenes.{refusal_of_fault, standing_in}
use Rattle.irig_station_scene.proofs.EventLaws.{refused_by}
use Rattle.irig_station_scene.proofs.player.StationPlayer.play.Goals as goal

pub returns-in_default-clause-plays : goal.returns-in_default-clause-plays
returns-in_default-clause-plays g c x shown past =
    let gone = all_let_go shown.keeps (standing_in x) in
    let cleared = c.clear_log.ensures x.plan.setup (standing_in x) shown past.station in
    let played = c.in_default.ensures x.plan.setup (standing_in x) gone cleared in
    (ap (option_and_then refusal_of_fault) played.0, record { station = played.1; named = past.named })

pub returns-in-Some-clause-plays : goal.returns-in-Some-clause-plays
returns-in-Some-clause-plays g c x shown past =
    let gone = all_let_go shown.keeps (standing_in x) in
    let cleared = c.clear_log.ensures x.plan.setup (standing_in x) shown past.station in
    let refused = refused_by c.apply.new.self x c.args.event.now gone c.in-Err.fault c.in-Some.refusal (sym c.refusal_of_fault.ensures ∙ c.in-Some.is) (c.in-Err.ensures x.plan.setup (standing_in x) gone cleared) in
    (refused.0, record { station = refused.1; named = past.named })
