-- What devices told, as ticks.
-- Source: docs/OUTPUT.md.
use Rattle.std.specs.Prelude.{◌≡◌, ℕ, ◌<◌, ◌==◌, if◌then◌else◌, List, [], ◌∷◌, ◌++◌, length, Option, Some, None}
use Rattle.irig_plant.specs.declared.entry.Entry.{Entry as ReaderEntry}
use Rattle.irig_simulated.specs.declared.told_second.ToldSecond.{ToldSecond}
use Rattle.irig_station.specs.declared.entry.Entry.{Entry}
use Rattle.irig_station.specs.declared.entry.Entry.TheVariants.{Told, Stamped}
use Rattle.irig_station.specs.StationSetups.{StationSetup, redundancy_of_station, truth_before}
use Rattle.report_found.specs.declared.tick.Tick.{Tick}
use Rattle.report_found.specs.Books.{tick}

-- what a reader would have logged that was device r, and told this: at the true edge to which the
-- told one lies nearest, and beside what lines tell there of a true frame
abbrev pub entry_of_told : StationSetup → (r : ℕ) → ToldSecond → ReaderEntry
entry_of_told s r told = record {
  reader = r;
  edge = told.edge;
  report = told.beat.report;
  redundancy = redundancy_of_station s;
  told = told.beat.told;
  truth = truth_before s told.edge;
}

-- a told second as a tick; a stamp is none
abbrev pub tick_of_told : StationSetup → Entry → Option Tick
tick_of_told s (Told r told) = Some (tick (entry_of_told s r told))
tick_of_told s (Stamped r time stamp) = None

-- those of device r are one more, if a tick is its own
abbrev pub with_told : (r : ℕ) → Option Tick → List Tick → List Tick
with_told r None ts = ts
with_told r (Some t) ts = if t.entry.reader == r then t ∷ ts else ts

-- the ticks of device r by entries of a log, both the newest first
abbrev pub device_ticks : StationSetup → (r : ℕ) → List Entry → List Tick
device_ticks s r [] = []
device_ticks s r (e ∷ before) = with_told r (tick_of_told s e) (device_ticks s r before)
