use Rattle.std.proofs.Common.{None, Some}
use Rattle.irig_station.specs.declared.entry.Entry.TheVariants.{Stamped, Told}
use Rattle.irig_station_scene.proofs.StationLineLaws.{line_is, station_line}
use Rattle.irig_station_scene.proofs.StationReadLaws.{none_is_shown, stamp_is_shown, stamp_once, stamped_line_no_told, told_is_shown, told_no_stamp, told_once}
use Rattle.irig_scene.proofs.NameLaws.{are_names_named}
use Rattle.irig_scenario.proofs.DeviceLogLaws.{last_shows_neither}
use Rattle.irig_scenario.proofs.laws.device_lines_read_one_way.Goals as goal

pub returns-clause-told : goal.returns-clause-told
returns-clause-told _ = λ names r told known few.
    (station_line names (Told r told), line_is names (Told r told), told_is_shown names r told known few)

pub returns-clause-stamp : goal.returns-clause-stamp
returns-clause-stamp _ = λ names r time stamp known few.
    let e = Stamped r time (Some stamp) in
    (station_line names e, line_is names e, stamp_is_shown names r time stamp known few)

pub returns-clause-no_stamp : goal.returns-clause-no_stamp
returns-clause-no_stamp _ = λ names r time named.
    let e = Stamped r time None in (
      station_line names e,
      line_is names e,
      record {
        told = λ x. stamped_line_no_told names r time None x;
        stamp = λ x. none_is_shown names r time x (are_names_named names named);
      },
    )

pub returns-clause-told_one_way : goal.returns-clause-told_one_way
returns-clause-told_one_way _ = λ names line x y named one two. told_once names line x y (are_names_named names named) one two

pub returns-clause-stamp_one_way : goal.returns-clause-stamp_one_way
returns-clause-stamp_one_way _ = λ names line x y named one two. stamp_once names line x y (are_names_named names named) one two

pub returns-clause-apart : goal.returns-clause-apart
returns-clause-apart _ = λ names line x y told stamp. told_no_stamp names line x y told stamp

pub returns-clause-last : goal.returns-clause-last
returns-clause-last _ = λ x all refused named. last_shows_neither all x (are_names_named x.plan.names named) refused
