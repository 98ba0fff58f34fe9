-- How far off the seconds lay that a device announced.
-- Source: docs/OUTPUT.md.
use Rattle.std.specs.Prelude.{◌≡◌, ℕ, ◌+◌, ◌-◌, ◌<◌, ◌≤◌, true, ◌==◌, ◌&&◌, max, min, if◌then◌else◌, List, [], ◌∷◌, slice_get, slice_index_or, unwrap_or, vec_len, Option, Some, None, is_some}
use Rattle.std.specs.List.{Contains}
use Rattle.irig_simulated.specs.declared.told_second.ToldSecond.{ToldSecond}
use Rattle.irig_station.specs.declared.entry.Entry.{Entry}
use Rattle.irig_station.specs.declared.entry.Entry.TheVariants.{Told, Stamped}
use Rattle.report_blame.specs.declared.reach.Off.{Off}
use Rattle.report_blame.specs.declared.reach.Reach.{Reach}
use Rattle.report_blame.specs.declared.reach.Reaches.{Reaches}

-- ---- one second

-- how far the told edge lies from the true one: before it, or behind it, and not both
abbrev pub off_of : ToldSecond → Off
off_of told = record {
  before_us = told.edge_count - told.told_count;
  behind_us = told.told_count - told.edge_count;
}

-- of two the one that lies further before, or less behind
abbrev pub lesser : Off → Off → Off
lesser x y = record {
  before_us = max x.before_us y.before_us;
  behind_us = min x.behind_us y.behind_us;
}

-- of two the one that lies less before, or further behind
abbrev pub greater : Off → Off → Off
greater x y = record {
  before_us = min x.before_us y.before_us;
  behind_us = max x.behind_us y.behind_us;
}

-- ---- seconds that a device announced

-- of the first
abbrev pub reach_begun : ToldSecond → Reach
reach_begun told = record {
  least = off_of told;
  greatest = off_of told;
  bound_us = told.beat.bound_us;
}

-- with one more
abbrev pub reach_more : Reach → ToldSecond → Reach
reach_more x told = record {
  least = lesser x.least (off_of told);
  greatest = greater x.greatest (off_of told);
  bound_us = max x.bound_us told.beat.bound_us;
}

-- with one, whether it is the first or one more
abbrev pub reach_after : Option Reach → ToldSecond → Option Reach
reach_after None told = Some (reach_begun told)
reach_after (Some x) told = Some (reach_more x told)

-- of device r, with an entry more: it counts if it is a second that this device announced
abbrev pub reach_past : (r : ℕ) → Option Reach → Entry → Option Reach
reach_past r reach (Told q told) =
    if (q == r) && is_some told.beat.report.announce then reach_after reach told else reach
reach_past r reach (Stamped q time stamp) = reach

-- the least and the greatest distance of the seconds that device r announced, by the entries of a
-- log, the newest first, and the greatest bound; none if it announced nothing
abbrev pub reach_of : (r : ℕ) → List Entry → Option Reach
reach_of r [] = None
reach_of r (e ∷ before) = reach_past r (reach_of r before) e

-- ---- those of all devices

-- that of a device in a list
abbrev pub reach_at : List (Option Reach) → (r : ℕ) → Option Reach
reach_at reaches r = unwrap_or (slice_get reaches r) None

-- they are those of so many devices by these entries, the newest first
pub record AreReaches (reaches : Reaches) (devices : ℕ) (before : List Entry) : Type 0 where
  pub count : vec_len reaches.each ≡ devices
  pub each : (r : ℕ) (d : Option Reach) → r < devices
      → slice_index_or reaches.each.items r d ≡ reach_of r before

-- ---- what such a summary says

-- a told edge lies no further before the true one than the least, and no further behind it than the
-- greatest; and its bound is no greater
pub record LiesWithin (x : Reach) (told : ToldSecond) : Type 0 where
  pub least : told.edge_count + x.least.behind_us ≤ told.told_count + x.least.before_us
  pub greatest : told.told_count + x.greatest.before_us
      ≤ told.edge_count + x.greatest.behind_us
  pub bound : told.beat.bound_us ≤ x.bound_us

-- device r announced this second, by these entries
pub record HasAnnounced (r : ℕ) (entries : List Entry) (told : ToldSecond) : Type 0 where
  pub logged : Contains entries (Told r told)
  pub announced : is_some told.beat.report.announce ≡ true

-- of one that device r announced this holds
abbrev pub SomeAnnounced : (r : ℕ) → List Entry → (ToldSecond → Type 0) → Type 0
SomeAnnounced r entries Holds = (told : ToldSecond) × HasAnnounced r entries told × Holds told

-- all that device r announced lies within, and one at each end
pub record IsReachOf (r : ℕ) (entries : List Entry) (x : Reach) : Type 0 where
  pub within : (told : ToldSecond) → HasAnnounced r entries told → LiesWithin x told
  pub least : SomeAnnounced r entries (λ told. off_of told ≡ x.least)
  pub greatest : SomeAnnounced r entries (λ told. off_of told ≡ x.greatest)
  pub bound : SomeAnnounced r entries (λ told. told.beat.bound_us ≡ x.bound_us)
