use Rattle.std.proofs.Common.{[], ap, inl, rules, sym, subst}
use Rattle.std.specs.Io.KnownBytes.{Appends}
use Rattle.std.proofs.lemmas.Result.{err_from_is_err_and}
use Rattle.irig_device.specs.Watched.{AppendsPart}
use Rattle.scenario_devices.specs.StationLine.{station_of}
use Rattle.irig_station_scene.specs.StationScenes.{station_begun, station_scene}
use Rattle.irig_station_scene.proofs.play.StationPlayerPlay.begin.Goals as goal

pub returns-clause-begins : goal.returns-clause-begins
returns-clause-begins g c =
    let plan = station_of c.in_ok-station.station in (
      station_scene plan [],
      ap station_begun c.in_ok-station.ensures.station,
      c.in_ok-player.ensures.quiet plan,
      c.in_ok-player.ensures.stands,
      subst (Appends _ _) (sym (c.first.ensures c.args.line.now)) c.in_ok-write_text.ensures.wrote,
    )

pub returns-in_err-write_text-clause-begins : goal.returns-in_err-write_text-clause-begins
returns-in_err-write_text-clause-begins g c =
    let p = err_from_is_err_and c.from_residual-in_err-write_text.result c.from_residual-in_err-write_text.ensures.1 in
    let plan = station_of c.in_ok-station.station in
    rw (p.1, p.2) (inl (
      station_scene plan [],
      ap station_begun c.in_ok-station.ensures.station,
      c.in_ok-player.ensures.quiet plan,
      subst (AppendsPart _ _) (sym (c.first.ensures c.args.line.now)) c.in_err-write_text.ensures.wrote,
    ))

pub returns-clause-note : goal.returns-clause-note
returns-clause-note g c = search rules
