-- The premises under which readers announce the truth.
-- Source: docs/HEADLINE.md, the premises.
use Rattle.std.specs.Prelude.{◌≡◌, ℕ, ◌<◌, true, false, List, ◌∷◌, ◌++◌, All}
use Rattle.irig_time.specs.Timelines.{TimelineValue}
use Rattle.irig_hold.specs.Truth.{IsTrueTable}
use Rattle.irig_plant.specs.declared.event.Event.{Event}
use Rattle.irig_plant.specs.declared.event.Event.TheVariants.{Tick}
use Rattle.irig_plant.specs.declared.entry.Entry.{Entry}
use Rattle.irig_plant.specs.declared.setup.ReaderSetup.{ReaderSetup}
use Rattle.irig_plant.specs.Schedule.{Setup, setup_at, ticks_of}
use Rattle.irig_plant.specs.Audits.{is_true_table, is_broken_now}

-- at each tick of r up to its n-th at most f ports tell an untrue claim
pub record IsKeptUpTo (s : Setup) (r n : ℕ) (ev : List Event) : Type 0 where
  pub ticks : (later earlier : List Event) → ev ≡ later ++ (Tick r ∷ earlier)
      → ticks_of r earlier < n
      → is_broken_now s r earlier ≡ false

-- the premises for an entry: its reader's table is true, and its ports were kept so far
pub record HasPremises (s : Setup) (ev : List Event) (e : Entry) : Type 0 where
  pub true_table : IsTrueTable s.times (setup_at s.readers e.reader).table
  pub kept : IsKeptUpTo s e.reader e.edge ev

-- the reader's table passes the audit's test
abbrev pub HasTrueTable : TimelineValue → ReaderSetup → Type 0
HasTrueTable t x = is_true_table t x.table ≡ true

-- the premises, for all readers and all their ticks
pub record IsKept (s : Setup) (ev : List Event) : Type 0 where
  pub tables : All (HasTrueTable s.times) s.readers
  pub ticks : (r n : ℕ) → IsKeptUpTo s r n ev
