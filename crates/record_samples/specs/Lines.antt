-- The levels of lines on channels of either kind.
-- Source: IEEE C37.111-2013, 6.4 to 6.6: a sample has its analog channels and then its digital ones, in bytes or in
-- fields of a row. That the channels of a record are named digital ones first is this project's profile.
use Rattle.std.specs.Prelude.{ℕ, ◌+◌, ◌-◌, ◌*◌, Bool, true, false, if◌then◌else◌, List, [], ◌∷◌, drop, slice_get, Option, Some, None, Result, Ok, Err, nat_eq, nat_lt}
use Rattle.record_text.specs.Fields.{field}
use Rattle.record_cells.specs.declared.volts.Threshold.{Threshold}
use Rattle.record_comtrade.specs.declared.clock.RowField.{RowField}
use Rattle.record_comtrade.specs.declared.clock.RowField.TheVariants.{Level, Value}
use Rattle.record_comtrade.specs.declared.fault.Fault.{Fault}
use Rattle.record_comtrade.specs.declared.parts.Form.{Form}
use Rattle.record_comtrade.specs.Configs.{ConfigValue, with_ok}
use Rattle.record_comtrade.specs.Samples.{bit_in}
use Rattle.record_analog.specs.declared.parts.Gauge.{Gauge}
use Rattle.record_analog.specs.Numbers.{number_in, text_number}
use Rattle.record_analog.specs.Gauges.{gauge_of}
use Rattle.record_analog.specs.Gauges.{heard as heard_number}
use Rattle.record_samples.specs.declared.lines.Line.{Line}
use Rattle.record_samples.specs.declared.lines.Line.TheVariants.{Unused, Digital, Analog}
use Rattle.record_samples.specs.declared.lines.LineFault.{LineFault}
use Rattle.record_samples.specs.declared.lines.LineFault.TheVariants.{NoThreshold, Config}
use Rattle.record_samples.specs.declared.lines.Lines.{Lines}

-- ---- which lines

-- an analog channel as a line
abbrev pub as_line : Result Gauge Fault → Result Line LineFault
as_line (Ok gauge) = Ok (Analog gauge)
as_line (Err fault) = Err (Config fault)

-- the analog channel at a place among them, which needs a threshold
abbrev pub analog_of : ConfigValue → (place : ℕ) → Option Threshold → Result Line LineFault
analog_of config place None = Err (NoThreshold place)
analog_of config place (Some threshold) = as_line (gauge_of config place threshold)

-- the channel at a place among all, digital ones first
abbrev pub line_of : ConfigValue → Option Threshold → (place : ℕ) → Result Line LineFault
line_of config threshold place =
    if nat_lt place config.counts.digitals then Ok (Digital (record { place = place; is_high = false }))
    else (if nat_lt (place - config.counts.digitals) config.counts.analogs
    then analog_of config (place - config.counts.digitals) threshold else Ok Unused)

-- the same, if there is a place
abbrev pub line_at : ConfigValue → Option Threshold → Option ℕ → Result Line LineFault
line_at config threshold None = Ok Unused
line_at config threshold (Some place) = line_of config threshold place

-- the channels at up to five places, or the first fault
abbrev pub lines_of : ConfigValue → Option Threshold → (places : List ℕ) → Result Lines LineFault
lines_of config threshold places =
    with_ok (line_at config threshold (slice_get places 0)) (λ a.
    with_ok (line_at config threshold (slice_get places 1)) (λ b.
    with_ok (line_at config threshold (slice_get places 2)) (λ c.
    with_ok (line_at config threshold (slice_get places 3)) (λ d.
    with_ok (line_at config threshold (slice_get places 4)) (λ e.
    Ok (record { first = a; second = b; third = c; fourth = d; fifth = e }))))))

-- ---- their levels

-- 1 if it is high
abbrev pub bit_of : Bool → ℕ
bit_of true = 1
bit_of false = 0

-- the level of a line
abbrev pub level_of_line : Line → ℕ
level_of_line Unused = 0
level_of_line (Digital bit) = bit_of bit.is_high
level_of_line (Analog gauge) = bit_of gauge.swing.is_high

-- those of all, the first by the bit of 1
abbrev pub levels : Lines → ℕ
levels lines =
    level_of_line lines.first + 2 * level_of_line lines.second + 4 * level_of_line lines.third
    + 8 * level_of_line lines.fourth + 16 * level_of_line lines.fifth

-- ---- samples that are numbers

-- a line with a sample more, of which these are the digital channels
abbrev pub heard_line : Form → Line → (sample digital : List ℕ) → Line
heard_line form Unused sample digital = Unused
heard_line form (Digital bit) sample digital = Digital (record { place = bit.place; is_high = nat_eq (bit_in digital bit.place) 1 })
heard_line form (Analog gauge) sample digital = Analog (heard_number gauge (number_in form sample gauge.place))

-- all lines with a sample more, whose digital channels begin at a byte
abbrev pub heard : Form → (offset : ℕ) → Lines → (sample : List ℕ) → Lines
heard form offset lines sample = record {
  first = heard_line form lines.first sample (drop offset sample);
  second = heard_line form lines.second sample (drop offset sample);
  third = heard_line form lines.third sample (drop offset sample);
  fourth = heard_line form lines.fourth sample (drop offset sample);
  fifth = heard_line form lines.fifth sample (drop offset sample);
}

-- ---- samples that are rows

-- the level of a digital channel by its field
abbrev pub level_of : (text : List ℕ) → Option ℕ
level_of [] = None
level_of (b ∷ []) = if nat_eq b 48 then Some 0 else (if nat_eq b 49 then Some 1 else None)
level_of (b ∷ c ∷ rest) = None

-- a digital channel with the level of its field
abbrev pub with_level : (place : ℕ) → Option ℕ → Result Line RowField
with_level place None = Err (Level place)
with_level place (Some level) = Ok (Digital (record { place = place; is_high = nat_eq level 1 }))

-- an analog channel with the number of its field, if that can be read
abbrev pub with_number : Gauge → Option (Option ℕ) → Result Line RowField
with_number gauge None = Err (Value gauge.place)
with_number gauge (Some number) = Ok (Analog (heard_number gauge number))

-- a line with a row more
abbrev pub line_in_row : (offset : ℕ) → Line → (row : List ℕ) → Result Line RowField
line_in_row offset Unused row = Ok Unused
line_in_row offset (Digital bit) row = with_level bit.place (level_of (field (offset + bit.place) row))
line_in_row offset (Analog gauge) row = with_number gauge (text_number (field (2 + gauge.place) row))

-- all lines with a row more, in which so many fields stand before the digital channels, or the first fault
abbrev pub heard_row : (offset : ℕ) → Lines → (row : List ℕ) → Result Lines RowField
heard_row offset lines row =
    with_ok (line_in_row offset lines.first row) (λ a.
    with_ok (line_in_row offset lines.second row) (λ b.
    with_ok (line_in_row offset lines.third row) (λ c.
    with_ok (line_in_row offset lines.fourth row) (λ d.
    with_ok (line_in_row offset lines.fifth row) (λ e.
    Ok (record { first = a; second = b; third = c; fourth = d; fifth = e }))))))
