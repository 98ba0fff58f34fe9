-- What analog channels say, at known values. Those of floats are from Python's struct and fractions.
use Rattle.std.proofs.Common.{◌≡◌, ℕ, true, false, List, [], ◌∷◌, ◌++◌, Ok, Err, Some, None, refl}
use Rattle.std.specs.Prelude.{codes}
use Rattle.record_cells.specs.declared.volts.Threshold.{Threshold}
use Rattle.record_comtrade.specs.declared.fault.Field.TheVariants.{Addend, Factor}
use Rattle.record_comtrade.specs.declared.parts.Form.TheVariants.{Ascii, Binary, Binary32, Float32}
use Rattle.record_comtrade.specs.Configs.{ConfigValue}
use Rattle.record_analog.specs.Numbers.{number_in, of_16, of_32, of_float, text_number}
use Rattle.record_analog.specs.Gauges.{addend_of, among_numbers, factor_of, gauge_of, heard}

-- ---- numbers: 32,767, 0, -1, -32,767 and none

pub known_16 : (of_16 32767 ≡ Some 9000032767000000000) × (of_16 0 ≡ Some 9000000000000000000) × (of_16 65535 ≡ Some 8999999999000000000)
    × (of_16 32769 ≡ Some 8999967233000000000) × (of_16 32768 ≡ None)
known_16 = (refl, refl, refl, refl, refl)

pub known_32 : (of_32 2147483647 ≡ Some 11147483647000000000) × (of_32 2147483649 ≡ Some 6852516353000000000) × (of_32 2147483648 ≡ None)
known_32 = (refl, refl, refl)

-- 1, 0.1, -2.5, 0.000001, 123.456, 2 ^ 24 and 2 ^ 33
pub known_floats : (of_float 1065353216 ≡ Some 9000000001000000000) × (of_float 1036831949 ≡ Some 9000000000100000001)
    × (of_float 3223322624 ≡ Some 8999999997500000000) × (of_float 897988541 ≡ Some 9000000000000000999)
    × (of_float 1123477881 ≡ Some 9000000123456001281) × (of_float 1266679808 ≡ Some 9016777216000000000)
    × (of_float 1342177280 ≡ Some 17589934592000000000)
known_floats = (refl, refl, refl, refl, refl, refl, refl)

-- 10 ^ 10 and 3.4 * 10 ^ 38 are too large, the least float and -10 ^ -9, which is a little less, are nothing
pub known_ends : (of_float 1343554297 ≡ Some 18000000000000000000) × (of_float 2139081118 ≡ Some 18000000000000000000)
    × (of_float 1 ≡ Some 9000000000000000000) × (of_float 2961797215 ≡ Some 9000000000000000000)
known_ends = (refl, refl, refl, refl)

-- the next float, the largest, its negative, infinity, and no number
pub known_missing : (of_float 2139081119 ≡ None) × (of_float 2139095039 ≡ None) × (of_float 4286578687 ≡ None)
    × (of_float 2139095040 ≡ None) × (of_float 2143289344 ≡ None)
known_missing = (refl, refl, refl, refl, refl)

-- a sample of the number 5, the time 667 and two analog channels, -2 and 258 of 16 bits, or 65534 + 65536 * 258 of 32
abbrev sample : List ℕ
sample = 5 ∷ 0 ∷ 0 ∷ 0 ∷ 155 ∷ 2 ∷ 0 ∷ 0 ∷ 254 ∷ 255 ∷ 2 ∷ 1 ∷ []

pub known_places : (number_in Binary sample 0 ≡ Some 8999999998000000000) × (number_in Binary sample 1 ≡ Some 9000000258000000000)
    × (number_in Binary32 sample 0 ≡ Some 9016973822000000000) × (number_in Float32 (0 ∷ 0 ∷ 0 ∷ 0 ∷ 0 ∷ 0 ∷ 0 ∷ 0 ∷ 0 ∷ 0 ∷ 128 ∷ 63 ∷ []) 0 ≡ Some 9000000001000000000)
    × (number_in Ascii sample 0 ≡ None)
known_places = (refl, refl, refl, refl, refl)

pub known_texts : (text_number (codes "-760") ≡ Some (Some 8999999240000000000)) × (text_number (codes "1.5e-3") ≡ Some (Some 9000000000001500000))
    × (text_number [] ≡ Some None) × (text_number (codes "99999") ≡ Some None) × (text_number (codes "999999") ≡ Some None)
    × (text_number (codes "9999999") ≡ Some (Some 9009999999000000000)) × (text_number (codes "1e9") ≡ None) × (text_number (codes "x") ≡ None)
known_texts = (refl, refl, refl, refl, refl, refl, refl, refl)

-- ---- factors and thresholds

pub known_factors : (factor_of [] ≡ Some (record { is_minus = false; parts = 1000000000000000000 }))
    × (factor_of (codes "-1.5e-2") ≡ Some (record { is_minus = true; parts = 15000000000000000 }))
    × (factor_of (codes "1e-18") ≡ Some (record { is_minus = false; parts = 1 })) × (factor_of (codes "1e-19") ≡ None)
    × (factor_of (codes "0.0") ≡ None) × (factor_of (codes "1e9") ≡ None) × (factor_of (codes "one") ≡ None)
    × (addend_of [] ≡ Some 1000000000000000000) × (addend_of (codes "-2.5") ≡ Some 999999997500000000) × (addend_of (codes "-") ≡ None)
known_factors = (refl, refl, refl, refl, refl, refl, refl, refl, refl, refl)

-- 2.5 is 25 by the factor 0.1; 0 is -1/3 by the factor 3 and the addend 1; and 1 by 10 ^ -18 is too large
pub known_thresholds : (among_numbers 100000000000000000 1000000000000000000 1000000002500000000 ≡ 9000000025000000000)
    × (among_numbers 3000000000000000000 1000000001000000000 1000000000000000000 ≡ 8999999999666666666)
    × (among_numbers 1 1000000000000000000 1000000001000000000 ≡ 18000000000000000000)
known_thresholds = (refl, refl, refl)
