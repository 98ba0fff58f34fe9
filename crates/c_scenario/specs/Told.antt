-- What devices told, for C, in numbers.
-- Source: docs/OUTPUT.md, docs/C.md.
use Rattle.std.specs.Prelude.{ℕ, ◌-◌, List, [], map, Option, Some, None}
use Rattle.irig_time.specs.declared.second.UtcSecond.{UtcSecond}
use Rattle.irig_timekeeper.specs.declared.stamp.Stamp.{Stamp}
use Rattle.irig_simulated.specs.declared.told_second.ToldSecond.{ToldSecond}
use Rattle.irig_station.specs.declared.entry.Entry.{Entry}
use Rattle.irig_station.specs.declared.entry.Entry.TheVariants as entry
use Rattle.c_numbers.specs.Reports.{number_of_lock, count_of_lock, number_of_cause}
use Rattle.report_run.specs.Meanings.{meaning_of}
use Rattle.irig_station_scene.specs.StationScenes.{StationScene, station_log, station_scenario}
use Rattle.c_scenario.specs.declared.told.IrigDeviceEntry.{IrigDeviceEntry}
use Rattle.c_scenario.specs.Entries.{one_if_some, second_or_zeros}

-- the bound of a second that is announced, or 0
abbrev pub bound_or_zero : Option UtcSecond → (bound : ℕ) → ℕ
bound_or_zero (Some second) bound = bound
bound_or_zero None bound = 0

-- a told second
abbrev pub told_record : (device : ℕ) → ToldSecond → IrigDeviceEntry
told_record device told = record {
  edge = told.edge;
  instant_us = 0;
  behind_us = told.told_count - told.edge_count;
  before_us = told.edge_count - told.told_count;
  lock_count = count_of_lock told.beat.report.lock;
  day = (second_or_zeros told.beat.report.announce).day;
  sod = (second_or_zeros told.beat.report.announce).sod;
  offset_us = 0;
  bound_us = bound_or_zero told.beat.report.announce told.beat.bound_us;
  device = device;
  kind = 1;
  names = one_if_some told.beat.report.announce;
  lock = number_of_lock told.beat.report.lock;
  cause = number_of_cause told.beat.report.cause;
}

-- a stamp, if one is given
abbrev pub stamp_record : (device time : ℕ) → Option Stamp → IrigDeviceEntry
stamp_record device time (Some stamp) = record {
  edge = 0;
  instant_us = time;
  behind_us = 0;
  before_us = 0;
  lock_count = 0;
  day = stamp.second.day;
  sod = stamp.second.sod;
  offset_us = stamp.offset_us;
  bound_us = stamp.bound_us;
  device = device;
  kind = 2;
  names = 1;
  lock = 0;
  cause = 0;
}
stamp_record device time None = record {
  edge = 0;
  instant_us = time;
  behind_us = 0;
  before_us = 0;
  lock_count = 0;
  day = 0;
  sod = 0;
  offset_us = 0;
  bound_us = 0;
  device = device;
  kind = 2;
  names = 0;
  lock = 0;
  cause = 0;
}

-- an entry of a log
abbrev pub device_entry_for : Entry → IrigDeviceEntry
device_entry_for (entry.Told r told) = told_record r told
device_entry_for (entry.Stamped r time stamp) = stamp_record r time stamp

-- those of a scene
abbrev pub told_in_scene : Option StationScene → List IrigDeviceEntry
told_in_scene None = []
told_in_scene (Some x) = map device_entry_for (station_log x)

-- all that the bytes x give, if they are of a plant of devices
abbrev pub told_of : List ℕ → List IrigDeviceEntry
told_of x = told_in_scene (meaning_of station_scenario x).scene
