-- The levels that voltages say by a threshold.
-- Source: this project's profile: a line keeps its level within a tenth of the most that it was ever off the
-- threshold, so that a slow edge with noise on it is one.
use Rattle.std.specs.Prelude.{ℕ, ◌+◌, ◌-◌, ◌*◌, Bool, true, false, if◌then◌else◌, List, Option, Some, None, nat_le, nat_lt}
use Rattle.record_text.specs.Signed.{decimal}
use Rattle.record_text.specs.declared.signed.Decimal.{Decimal}
use Rattle.record_cells.specs.declared.volts.Swing.{Swing}
use Rattle.record_cells.specs.declared.volts.Threshold.{Threshold}
use Rattle.record_cells.specs.Scales.{below, scaled}

-- the place of 0 V: places are billionths above -1,000,000,000
abbrev pub middle : ℕ
middle = 1000000000000000000

-- the place of so many billionths, above 0 or below it
abbrev pub place_by : (minus : Bool) → (billionths : Option ℕ) → Option ℕ
place_by minus None = None
place_by true (Some n) = Some (middle - n)
place_by false (Some n) = Some (middle + n)

-- the place of a decimal number, if that is less than 1,000,000,000 off 0
abbrev pub place_scaled : Option Decimal → Option ℕ
place_scaled None = None
place_scaled (Some d) = place_by d.is_minus (below middle (scaled d.number (d.up + 9) d.down))

-- the place of the voltage that a text spells
abbrev pub place_of : (text : List ℕ) → Option ℕ
place_of text = place_scaled (decimal text)

-- the threshold at a place
abbrev pub at_place : (place : ℕ) → Threshold
at_place place = record { place = place }

-- the place of a threshold
abbrev pub place_at : Threshold → ℕ
place_at threshold = threshold.place

-- the threshold at a place, if there is one
abbrev pub threshold_at : Option ℕ → Option Threshold
threshold_at (Some place) = Some (record { place = place })
threshold_at None = None

-- the threshold that a text spells
abbrev pub threshold_of : (text : List ℕ) → Option Threshold
threshold_of text = threshold_at (place_of text)

-- how far two places are apart
abbrev pub distance : (a b : ℕ) → ℕ
distance a b = if nat_le a b then b - a else a - b

-- the greater of two numbers
abbrev pub greater : (a b : ℕ) → ℕ
greater a b = if nat_le a b then b else a

-- a line with that most, and so far off the threshold: above it or not, if it is more than a tenth of that
abbrev pub swung_by : Swing → (most off : ℕ) → (above : Bool) → Swing
swung_by swing most off above =
    record { most = most; is_high = if nat_lt most (off * 10) then above else swing.is_high }

-- a line with a voltage more
abbrev pub swung : Swing → Threshold → (place : ℕ) → Swing
swung swing threshold place =
    swung_by swing (greater swing.most (distance threshold.place place)) (distance threshold.place place) (nat_lt threshold.place place)
