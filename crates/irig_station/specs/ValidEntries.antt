-- What is so of each entry of a station's log: its seconds are of UTC and its numbers are in range, so
-- that they can be written, and it is of one of the devices.
-- Source: docs/OUTPUT.md.
use Rattle.std.specs.Prelude.{ℕ, ◌<◌, ◌^◌, All, Some, None, ⊤}
use Rattle.irig_timekeeper.specs.declared.stamp.Stamp.{Stamp}
use Rattle.irig_timekeeper.specs.Stamps.{StampsOfUtc}
use Rattle.irig_simulated.specs.declared.told_second.ToldSecond.{ToldSecond}
use Rattle.irig_simulated.specs.ToldSeconds.{IsToldOfUtc}
use Rattle.irig_station.specs.declared.entry.Entry.{Entry}
use Rattle.irig_station.specs.declared.entry.Entry.TheVariants.{Told, Stamped}
use Rattle.irig_station.specs.StationSetups.{StationSetup}

-- the second that is announced, if one is, and each that a line claims; that of a stamp, if one is
-- given
abbrev pub IsValidEntry : Entry → Type 0
IsValidEntry (Told r told) = IsToldOfUtc told
IsValidEntry (Stamped r time stamp) = StampsOfUtc stamp

-- it is of one of so many devices
abbrev pub IsOfDevice : (devices : ℕ) → Entry → Type 0
IsOfDevice devices (Told r told) = r < devices
IsOfDevice devices (Stamped r time stamp) = r < devices

-- ---- numbers

-- numbers that the line of a told second shows in full
pub record IsToldInRange (told : ToldSecond) : Type 0 where
  pub edge : told.edge < 2 ^ 64
  pub edge_count : told.edge_count < 2 ^ 64
  pub told_count : told.told_count < 2 ^ 64
  pub bound : told.beat.bound_us < 2 ^ 64

-- and that of a stamp
pub record IsStampInRange (time : ℕ) (stamp : Stamp) : Type 0 where
  pub instant : time < 2 ^ 64
  pub offset : stamp.offset_us < 2 ^ 64
  pub bound : stamp.bound_us < 2 ^ 64

-- so it is of an entry
abbrev pub IsEntryInRange : Entry → Type 0
IsEntryInRange (Told r told) = IsToldInRange told
IsEntryInRange (Stamped r time None) = ⊤
IsEntryInRange (Stamped r time (Some stamp)) = IsStampInRange time stamp

-- what the counter of each device shows at edge 0 is a number of 32 bits
abbrev pub AreWordCounters : StationSetup → Type 0
AreWordCounters s = All (λ d. d.counter < 2 ^ 32) s.devices
