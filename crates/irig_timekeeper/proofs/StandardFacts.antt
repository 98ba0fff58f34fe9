-- The definitions at known values.
use Rattle.std.proofs.Common.{◌≡◌, ℕ, true, false, Option, Some, None, refl}
use Rattle.irig_timekeeper.specs.declared.stamp.Announced.{Announced}
use Rattle.irig_timekeeper.specs.Stamps.{next_us, serves}
use Rattle.irig_timekeeper.specs.Quality.{quality_of}
use Rattle.irig_time.specs.declared.second.UtcSecond.{UtcSecond}
use Rattle.irig_time.specs.declared.mark.Mark.TheVariants.{Unspoken, NoLeap, Insert, Delete}
use Rattle.irig_time.specs.Days.{is_month_end, four_years}
use Rattle.irig_timekeeper.specs.Rule.{part_behind}

-- a second serves an event a second and its error behind it, and one before the next edge, but not if that
-- lies a second and a half behind, or more
pub known_serves : (serves 10 0 1000010 ≡ true) × (serves 10 0 1000011 ≡ false) × (serves 10 1000100 1000099 ≡ true) × (serves 10 1000100 1000100 ≡ false) × (serves 10 1499999 1499998 ≡ true) × (serves 10 1500000 1000010 ≡ true)
    × (serves 10 1500000 1000011 ≡ false)
known_serves = (refl, refl, refl, refl, refl, refl, refl)

abbrev second_at : ℕ → Option Announced
second_at edge = Some (record { second = record { day = 6209; sod = 7 }; edge_us = edge; bound_us = 10 })

-- the next edge, over the wrap too
pub known_next : (next_us (second_at 700) (second_at 4294000000) ≡ 967996) × (next_us (second_at 700) None ≡ 0) × (next_us None (second_at 700) ≡ 0)
known_next = (refl, refl, refl)

-- each code at the least and the most of its bounds
pub known_qualities : (quality_of 0 ≡ 4) × (quality_of 1 ≡ 4) × (quality_of 2 ≡ 5) × (quality_of 10 ≡ 5) × (quality_of 11 ≡ 6) × (quality_of 100 ≡ 6) × (quality_of 101 ≡ 7) × (quality_of 1000 ≡ 7) × (quality_of 1001 ≡ 8) × (quality_of 10000 ≡ 8) × (quality_of 10001 ≡ 9)
    × (quality_of 100000 ≡ 9) × (quality_of 100001 ≡ 10) × (quality_of 1000000 ≡ 10) × (quality_of 1000001 ≡ 15)
known_qualities = (refl, refl, refl, refl, refl, refl, refl, refl, refl, refl, refl, refl, refl, refl, refl)

-- of 2016-12-31: an inserted second follows 23:59:59, and a deleted one follows 23:59:58 (ITU-R TF.460), so
-- that a table which knows of it parts there from frames that deny it, and not at the seconds beside it
abbrev at : ℕ → UtcSecond
at sod = record { day = 6209; sod = sod }

pub known_inserted : (part_behind (at 86398) NoLeap Insert ≡ false) × (part_behind (at 86399) NoLeap Insert ≡ true) × (part_behind (at 86400) NoLeap Insert ≡ false)
unfolding is_month_end four_years
known_inserted = (refl, refl, refl)

pub known_deleted : (part_behind (at 86397) NoLeap Delete ≡ false) × (part_behind (at 86398) NoLeap Delete ≡ true) × (part_behind (at 86399) NoLeap Delete ≡ false)
unfolding is_month_end four_years
known_deleted = (refl, refl, refl)

-- what is not said does not part
pub known_unsaid : (part_behind (at 86399) Unspoken Insert ≡ false) × (part_behind (at 86399) NoLeap Unspoken ≡ false)
unfolding is_month_end four_years
known_unsaid = (refl, refl)
