-- What cells and remarks say, at known values.
use Rattle.std.proofs.Common.{◌≡◌, ℕ, true, false, List, [], ◌∷◌, ◌++◌, Some, None, refl}
use Rattle.std.specs.Prelude.{codes}
use Rattle.record_cells.specs.declared.unit.Unit.TheVariants.{Second, Millisecond, Microsecond, Picosecond}
use Rattle.record_cells.specs.declared.unit.Column.TheVariants.{Levels, Unknown}
use Rattle.record_cells.specs.declared.unit.Column.TheVariants.{Times as HasTimes}
use Rattle.record_cells.specs.Cells.{level_of}
use Rattle.record_cells.specs.Rates.{rate_of}
use Rattle.record_cells.specs.Remarks.{is_remark, list_text, rate_text}
use Rattle.record_cells.specs.Units.{column_of}
use Rattle.record_cells.specs.Volts.{place_of, threshold_of}

-- ---- cells

-- "1" in quotes
abbrev quoted_one : List ℕ
quoted_one = 34 ∷ codes "1" ++ 34 ∷ []

pub known_levels : (level_of (codes "0") ≡ Some false) × (level_of quoted_one ≡ Some true) × (level_of (34 ∷ codes "1") ≡ None)
    × (level_of (codes "01") ≡ None) × (level_of (codes "1.0") ≡ None) × (level_of [] ≡ None)
known_levels = (refl, refl, refl, refl, refl, refl)

pub known_columns : (column_of (codes "Time") ≡ HasTimes Second) × (column_of (codes "TIME [ms]") ≡ HasTimes Millisecond)
    × (column_of (codes "time(ps)") ≡ HasTimes Picosecond) × (column_of (codes "Microseconds") ≡ HasTimes Microsecond)
    × (column_of (codes "Time [" ++ 194 ∷ 181 ∷ codes "s]") ≡ HasTimes Microsecond) × (column_of (codes "Time [" ++ 206 ∷ 188 ∷ codes "s]") ≡ HasTimes Microsecond)
    × (column_of (codes "Time [min]") ≡ Unknown) × (column_of (codes "D0") ≡ Levels) × (column_of (codes "tim") ≡ Levels)
known_columns = (refl, refl, refl, refl, refl, refl, refl, refl, refl)

-- ---- remarks

pub known_remarks : (is_remark (codes "; x") ≡ true) × (is_remark [] ≡ true) × (is_remark (32 ∷ 9 ∷ []) ≡ true) × (is_remark (codes "META 1") ≡ true) × (is_remark (codes "MET,A") ≡ false)
    × (rate_text (codes ";Samplerate:  1 MHz ") ≡ Some (codes "1 MHz")) × (rate_text (codes "META samplerate: 5") ≡ Some (codes "5")) × (rate_text (codes "# sample rate: 5") ≡ None)
    × (list_text (codes "; Channels (2/8): a, b") ≡ Some (codes " a, b")) × (list_text (codes "; Channels (2/8) a") ≡ None)
known_remarks = (refl, refl, refl, refl, refl, refl, refl, refl, refl, refl)

pub known_rates : (rate_of (codes "1 MHz") ≡ Some 1000000000000) × (rate_of (codes "12.5khz") ≡ Some 12500000000) × (rate_of (codes "44100") ≡ Some 44100000000)
    × (rate_of (codes "0 Hz") ≡ None) × (rate_of (codes "fast") ≡ None) × (rate_of (codes "1 mm") ≡ None)
known_rates = (refl, refl, refl, refl, refl, refl)

-- ---- voltages

pub known_places : (place_of (codes "-0.0000000019") ≡ Some 999999999999999999) × (place_of (codes "999999999.999999999") ≡ Some 1999999999999999999)
    × (place_of (codes "1e9") ≡ None) × (threshold_of (codes "1,5") ≡ None)
known_places = (refl, refl, refl, refl)
