-- The open lanes of readers, or of devices, by their ticks.
-- Source: docs/C.md.
use Rattle.std.specs.Prelude.{◌≡◌, ℕ, ◌<◌, List, slice_index_or, vec_len}
use Rattle.report_found.specs.declared.tick.Tick.{Tick}
use Rattle.report_lanes.specs.declared.drawer.Drawer.{Drawer}
use Rattle.report_lanes.specs.declared.reader.ReaderLanes.{ReaderLanes}
use Rattle.report_lanes.specs.Lanes.{open_of}

-- the lanes of each of so many readers are open, which had these ticks, the newest first
pub record AreOpen (d : Drawer) (readers : ℕ) (ticks : (r : ℕ) → List Tick) : Type 0 where
  pub count : vec_len d.readers ≡ readers
  pub each : (r : ℕ) (o : ReaderLanes) → r < readers
      → slice_index_or d.readers.items r o ≡ open_of (ticks r)
