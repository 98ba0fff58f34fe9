-- The rate of samples that a remark says.
-- Source: sigrok's output of tables (; Samplerate: 1 MHz), and this project's profile.
use Rattle.std.specs.Prelude.{ℕ, ◌+◌, ◌*◌, ◌||◌, if◌then◌else◌, List, [], ◌∷◌, length, take, drop, codes, Option, Some, None, nat_eq, nat_lt}
use Rattle.std.specs.Str.{str_eq_ignore_ascii_case}
use Rattle.record_text.specs.Decimals.{millionths}
use Rattle.record_text.specs.Fields.{trimmed}
use Rattle.record_text.specs.Numbers.{is_digit}

-- how many digits and points a text begins with
abbrev pub number_in : (text : List ℕ) → ℕ
number_in [] = 0
number_in (b ∷ bs) = if is_digit b || nat_eq b 46 then number_in bs + 1 else 0

-- how many samples a second a unit is, in capitals or not
abbrev pub factor_of : (unit : List ℕ) → Option ℕ
factor_of unit =
    if nat_eq (length unit) 0 || str_eq_ignore_ascii_case unit (codes "Hz") then Some 1
    else (if str_eq_ignore_ascii_case unit (codes "kHz") then Some 1000
    else (if str_eq_ignore_ascii_case unit (codes "MHz") then Some 1000000
    else (if str_eq_ignore_ascii_case unit (codes "GHz") then Some 1000000000 else None)))

-- so many millionths of a unit in millionths of a sample a second, if that is not 0
abbrev pub rate_by : (millionths factor : Option ℕ) → Option ℕ
rate_by None factor = None
rate_by (Some n) None = None
rate_by (Some n) (Some factor) = if nat_lt 0 n then Some (n * factor) else None

-- the rate that a text says: a decimal number and a unit
abbrev pub rate_of : (text : List ℕ) → Option ℕ
rate_of text =
    rate_by (millionths (take (number_in text) text)) (factor_of (trimmed (drop (number_in text) text)))
