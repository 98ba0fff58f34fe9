-- The level of an analog channel by a threshold.
-- Source: IEEE C37.111-2013, 5.3.6: the line of an analog channel has its factor and its addend in fields 5 and 6, and
-- a value is factor * number + addend. That a line is high above a threshold, in which range factors and addends lie,
-- and how the threshold is rounded, is this project's profile.
use Rattle.std.specs.Prelude.{ℕ, ◌+◌, ◌-◌, ◌*◌, ◌/◌, Bool, false, if◌then◌else◌, List, [], ◌∷◌, Option, Some, None, Result, Ok, min, nat_eq, nat_le, nat_lt}
use Rattle.record_text.specs.Fields.{field}
use Rattle.record_text.specs.Signed.{decimal}
use Rattle.record_text.specs.declared.signed.Decimal.{Decimal}
use Rattle.record_cells.specs.Scales.{below, scaled}
use Rattle.record_cells.specs.Volts.{at_place, place_at, place_of, swung}
use Rattle.record_cells.specs.declared.volts.Threshold.{Threshold}
use Rattle.record_comtrade.specs.declared.fault.Fault.{Fault}
use Rattle.record_comtrade.specs.declared.fault.Field.TheVariants.{Addend, Factor}
use Rattle.record_comtrade.specs.Configs.{ConfigValue, needed, text_at, with_ok}
use Rattle.record_analog.specs.declared.parts.Factor.{Factor as FactorOf}
use Rattle.record_analog.specs.declared.parts.Gauge.{Gauge}
use Rattle.record_analog.specs.Numbers.{middle, turned}

-- ---- the factor and the addend

-- a factor that is so many parts of 10 ^ -18, unless that is 0
abbrev pub factor_parts : (minus : Bool) → Option ℕ → Option FactorOf
factor_parts minus None = None
factor_parts minus (Some parts) = if nat_lt 0 parts then Some (record { is_minus = minus; parts = parts }) else None

-- the factor that a decimal number is, rounded down to 10 ^ -18, if it is below 1,000,000,000
abbrev pub factor_by : Decimal → Option FactorOf
factor_by d = factor_parts d.is_minus (below 1000000000000000000000000000 (scaled d.number (d.up + 18) d.down))

-- so if there is one
abbrev pub factor_read : Option Decimal → Option FactorOf
factor_read None = None
factor_read (Some d) = factor_by d

-- the factor that a text spells, or 1 if it is empty
abbrev pub factor_of : (text : List ℕ) → Option FactorOf
factor_of [] = Some (record { is_minus = false; parts = 1000000000000000000 })
factor_of (b ∷ bs) = factor_read (decimal (b ∷ bs))

-- the place of the addend that a text spells, in billionths above -1,000,000,000; an empty one is 0
abbrev pub addend_of : (text : List ℕ) → Option ℕ
addend_of [] = Some 1000000000000000000
addend_of (b ∷ bs) = place_of (b ∷ bs)

-- ---- the threshold

-- no more than the most that numbers are off 0
abbrev pub capped : (n : ℕ) → ℕ
capped n = if nat_lt n middle then n else middle

-- the place among numbers of (threshold - addend) / factor, rounded down: a value is above the threshold exactly if its
-- number is above that, where the factor is above 0, and else if its number with the other sign is. All but the factor,
-- which is in parts of 10 ^ -18, is in billionths
abbrev pub among_numbers : (parts addend threshold : ℕ) → ℕ
among_numbers parts addend threshold =
    if nat_le addend threshold then middle + capped ((threshold - addend) * 1000000000000000000 / parts)
    else middle - capped (((addend - threshold) * 1000000000000000000 + (parts - 1)) / parts)

-- ---- the level

-- a channel with a number more, if that is not missing
abbrev pub heard : Gauge → (number : Option ℕ) → Gauge
heard gauge None = gauge
heard gauge (Some place) =
    record gauge { swing = swung gauge.swing gauge.threshold (turned gauge.is_minus place) }

-- a channel before any number: the threshold is compared with numbers, whose sign is turned if the factor is below 0
abbrev pub gauge_by : (place : ℕ) → FactorOf → (addend : ℕ) → Threshold → Gauge
gauge_by place factor addend threshold = record {
  place = place;
  is_minus = factor.is_minus;
  threshold = at_place (among_numbers factor.parts addend (place_at threshold));
  swing = record { most = 0; is_high = false };
}

-- the line of the analog channel at a place among them, from 0
abbrev pub analog_line : ConfigValue → (place : ℕ) → List ℕ
analog_line config place = text_at config.lines (2 + place)

-- the analog channel at a place by its line, or its first fault
abbrev pub gauge_of : ConfigValue → (place : ℕ) → Threshold → Result Gauge Fault
gauge_of config place threshold =
    with_ok (needed (factor_of (field 5 (analog_line config place))) (2 + place) Factor) (λ factor.
    with_ok (needed (addend_of (field 6 (analog_line config place))) (2 + place) Addend) (λ addend.
    Ok (gauge_by place factor addend threshold)))
