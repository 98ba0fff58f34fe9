-- What the control bits of a second truly say (IEEE 1344-1995, the IRIG-B annex; when they are set
-- is this project's profile).
use Rattle.std.specs.Prelude.{◌+◌, ◌*◌, Bool, ◌&&◌, ◌==◌, is_some, List, Option, ℤ, neg_ℤ}
use Rattle.std.specs.List.{list_any}
use Rattle.irig_control.specs.declared.control.Control.{Control}
use Rattle.irig_time.specs.declared.second.UtcSecond.{UtcSecond}
use Rattle.irig_time.specs.declared.leap.Leap.{Leap}
use Rattle.irig_time.specs.declared.rules.Sense.{Sense}
use Rattle.irig_time.specs.declared.rules.Sense.TheVariants.{Add, Subtract}
use Rattle.irig_time.specs.Seconds.{minute_number, minute_of}
use Rattle.irig_time.specs.Timelines.{is_deletion}
use Rattle.irig_gen.specs.declared.zone.Zone.{Zone}
use Rattle.irig_gen.specs.declared.zone.Change.{Change}
use Rattle.irig_gen.specs.Zones.{zone_at}

-- the minute of u ends at this second
abbrev pub ends_minute : UtcSecond → UtcSecond → Bool
ends_minute u at = minute_number at == u.day * 1440 + minute_of u + 1

-- the offset turns the local time into UTC
abbrev pub offset_sent : Sense → ℤ → ℤ
offset_sent Add h = neg_ℤ h
offset_sent Subtract h = h

-- a leap is pending in the last minute of its day, a change of zone in the minute that ends with it
abbrev pub control_in : Sense → Zone → List Change → Option Leap → UtcSecond → Control
control_in sense zone changes leap u = record {
  leap_pending = is_some leap && (minute_of u == 1439);
  leap_delete = is_deletion leap && (minute_of u == 1439);
  dst_pending = list_any (λ x. ends_minute u x.at) changes;
  dst = zone.dst;
  offset_half_hours = offset_sent sense zone.half_hours;
  quality = 0;
}

-- the same, in the zone that holds at the second
abbrev pub true_control : Sense → Zone → List Change → Option Leap → UtcSecond → Control
true_control sense zone changes leap u = control_in sense (zone_at zone changes u) changes leap u
