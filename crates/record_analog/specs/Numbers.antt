-- The number of an analog channel in a sample.
-- Source: IEEE C37.111-2013, 6.4 to 6.6 (ASCII, BINARY, BINARY32 and FLOAT32 data) and IEEE 754, single precision.
-- Numbers stand after the sample's number and time, the lowest byte first. That they are read to a billionth, that
-- those beyond 9,000,000,000 are taken for that, and what is missing, is this project's profile.
use Rattle.std.specs.Prelude.{ℕ, ◌+◌, ◌-◌, ◌*◌, ◌/◌, ◌%◌, ◌^◌, Bool, ◌||◌, if◌then◌else◌, List, [], ◌∷◌, length, codes, Option, Some, None, min, nat_eq, nat_le, nat_lt}
use Rattle.std.specs.Int.{from_le_bytes, w16}
use Rattle.std.specs.Str.{bytes_eq}
use Rattle.record_cells.specs.Volts.{place_of}
use Rattle.record_comtrade.specs.declared.parts.Form.{Form}
use Rattle.record_comtrade.specs.declared.parts.Form.TheVariants.{Ascii, Binary, Binary32, Float32}
use Rattle.record_comtrade.specs.Samples.{byte_at, number_at}

-- the place of 0: places are billionths above -9,000,000,000
abbrev pub middle : ℕ
middle = 9000000000000000000

-- so many billionths above 0, or below it
abbrev pub placed : (minus : Bool) → (billionths : ℕ) → ℕ
placed minus n = if minus then middle - n else middle + n

-- the place with the other sign, or this one
abbrev pub turned : (minus : Bool) → (place : ℕ) → ℕ
turned minus place = if minus then 2 * middle - place else place

-- ---- as numbers

-- a whole number, of so many words that half of them are below 0; the least of these says that there is none
abbrev pub whole : (half word : ℕ) → Option ℕ
whole half word =
    if nat_eq word half then None
    else (if nat_lt word half then Some (middle + word * 1000000000) else Some (middle - (2 * half - word) * 1000000000))

-- of 16 bits, of which 8000 says that there is none
abbrev pub of_16 : (word : ℕ) → Option ℕ
of_16 word = whole 32768 word

-- of 32 bits, of which 80000000 says that there is none
abbrev pub of_32 : (word : ℕ) → Option ℕ
of_32 word = whole 2147483648 word

-- the billionths of mantissa * 2 ^ (exponent - 150), rounded down: mantissa * 10 ^ 9 * 2 ^ 10 / 2 ^ (160 - exponent).
-- Above an exponent of 160 that is too large, and below 97 less than one
abbrev pub billionths : (mantissa exponent : ℕ) → ℕ
billionths mantissa exponent =
    if nat_lt 160 exponent then middle
    else (if nat_lt exponent 97 then 0 else min middle (mantissa * 1024 * 1000000000 / 2 ^ (160 - exponent)))

-- those of a float without its sign: 8 bits of an exponent, and 23 of a fraction of 2 ^ 23, to which 2 ^ 23 is added
-- unless the exponent is 0, which counts as 1
abbrev pub float_billionths : (exponent fraction : ℕ) → ℕ
float_billionths exponent fraction =
    if nat_eq exponent 0 then billionths fraction 1 else billionths (8388608 + fraction) exponent

-- a float, of which one beyond 3.4 * 10 ^ 38, as 7F7FC99F is the first, or that is no number, says that there is none
abbrev pub of_float : (word : ℕ) → Option ℕ
of_float word =
    if nat_lt 2139081118 (word % 2147483648) then None
    else Some (placed (nat_le 2147483648 word) (float_billionths (word % 2147483648 / 8388608) (word % 2147483648 % 8388608)))

-- a number of two bytes, the lower one first
abbrev pub word_at : (sample : List ℕ) → (place : ℕ) → ℕ
word_at sample place = from_le_bytes w16 (byte_at sample place ∷ byte_at sample (place + 1) ∷ [])

-- the number of the analog channel at a place among them
abbrev pub number_in : Form → (sample : List ℕ) → (place : ℕ) → Option ℕ
number_in Ascii sample place = None
number_in Binary sample place = of_16 (word_at sample (8 + 2 * place))
number_in Binary32 sample place = of_32 (number_at sample (8 + 4 * place))
number_in Float32 sample place = of_float (number_at sample (8 + 4 * place))

-- ---- as texts

-- a text says that there is none: it is empty, 99999 or 999999
abbrev pub is_missing : (text : List ℕ) → Bool
is_missing text = nat_eq (length text) 0 || bytes_eq text (codes "99999") || bytes_eq text (codes "999999")

-- places above -1,000,000,000 by those above -9,000,000,000
abbrev pub raised : Option ℕ → Option (Option ℕ)
raised None = None
raised (Some place) = Some (Some (place + 8000000000000000000))

-- the number that a text spells, if it spells one or says that there is none
abbrev pub text_number : (text : List ℕ) → Option (Option ℕ)
text_number text = if is_missing text then Some None else raised (place_of text)
