-- Known values of the definitions that are of devices, worked by hand.
use Rattle.std.proofs.Common.{◌≡◌, ℕ, false, [], ◌∷◌, Some, None, refl}
use Rattle.irig_port.specs.declared.told.Told.TheVariants as tells
use Rattle.irig_reader.specs.declared.report.Cause.TheVariants.{NoVote}
use Rattle.irig_reader.specs.declared.report.Lock.TheVariants.{Unlocked}
use Rattle.irig_simulated.specs.declared.told_second.ToldSecond.{ToldSecond}
use Rattle.irig_station.specs.declared.entry.Entry.{Entry}
use Rattle.irig_station.specs.declared.entry.Entry.TheVariants.{Told, Stamped}
use Rattle.irig_station.specs.StationSetups.{StationSetup, station_setup, truth_before}
use Rattle.irig_time.specs.declared.claim.Claim.{Claim}
use Rattle.irig_time.specs.Days.{is_month_end, four_years}
use Rattle.irig_time.specs.declared.leap.Leap.TheVariants as leap
use Rattle.irig_time.specs.declared.mark.Mark.TheVariants.{Unspoken, Insert}
use Rattle.irig_time.specs.declared.rules.Rules.{Rules}
use Rattle.irig_time.specs.Timelines.{second_at, times}
use Rattle.report_found.specs.Books.{tick}
use Rattle.report_found.specs.DeviceTicks.{device_ticks, entry_of_told, tick_of_told}

-- from 23:59:58 of the last day of 2016 on, at whose end a leap second comes, without devices
abbrev plant : Rules → StationSetup
plant rules = station_setup (times (record { day = 6209; sod = 86398 }) ((6209, leap.Insert) ∷ [])) [] rules []

-- ---- what is true at an edge

-- at edge 0 no frame has ended
pub none_at_first : (rules : Rules) → truth_before (plant rules) 0 ≡ None
none_at_first rules = refl

-- 23:59:59 tells of the leap second, which ends at edge 3
pub the_frames_before : (rules : Rules) → (truth_before (plant rules) 2 ≡ Some (record { at = record { day = 6209; sod = 86399 }; mark = Insert }))
    × (truth_before (plant rules) 3 ≡ Some (record { at = record { day = 6209; sod = 86400 }; mark = Unspoken }))
unfolding second_at is_month_end four_years
the_frames_before rules = (refl, refl)

-- ---- ticks of devices

-- a second that is told 250 us behind an edge, of which nothing is known
abbrev told : (edge : ℕ) → ToldSecond
told edge = record {
  edge = edge;
  edge_count = 1000000;
  told_count = 1000250;
  beat = record {
    report = record { announce = None; lock = Unlocked; cause = NoVote };
    told = record { a = tells.Silence; b = tells.Silence; c = tells.Silence; d = tells.Silence; e = tells.Silence };
    edge_us = 250;
    bound_us = 0;
    missed = 0;
    moved = 0;
    against_table = false;
  };
}

-- a stamp is no tick
pub no_tick_of_a_stamp : (rules : Rules) → tick_of_told (plant rules) (Stamped 1 6300000 None) ≡ None
no_tick_of_a_stamp rules = refl

-- of a log, the newest entry first, a device has its own told seconds alone, also those of one edge
pub own_ticks_alone : (rules : Rules) → device_ticks (plant rules) 1 (Told 1 (told 7) ∷ Stamped 1 7300000 None ∷ Told 0 (told 7) ∷ Told 1 (told 7) ∷ []) ≡ tick (entry_of_told (plant rules) 1 (told 7)) ∷ tick (entry_of_told (plant rules) 1 (told 7)) ∷ []
unfolding second_at
own_ticks_alone rules = refl
