-- A decimal number as whole millionths.
-- Source: this project's profile: digits, then a point and digits or neither. It has no sign and no exponent, and
-- after the sixth place it has zeros alone.
use Rattle.std.specs.Prelude.{ℕ, ◌+◌, ◌-◌, ◌*◌, ◌/◌, ◌^◌, ◌&&◌, ◌||◌, if◌then◌else◌, List, [], ◌∷◌, length, take, drop, Option, Some, None, nat_eq, nat_lt}
use Rattle.record_text.specs.Numbers.{is_digit, number}

-- how many bytes stand before the first point
abbrev pub point_in : (text : List ℕ) → ℕ
point_in [] = 0
point_in (b ∷ bs) = if nat_eq b 46 then 0 else point_in bs + 1

-- how many bytes stand after it
abbrev pub places_in : (text : List ℕ) → ℕ
places_in text = length (drop (point_in text + 1) text)

-- the number n and these digits, of which the first weighs so much, and each other a tenth of the one before; if
-- it is below 2^64
abbrev pub places_from : (weight n : ℕ) → (digits : List ℕ) → Option ℕ
places_from weight n [] = Some n
places_from weight n (d ∷ ds) =
    if is_digit d && (nat_lt 0 weight || nat_eq d 48) && nat_lt (n + (d - 48) * weight) (2 ^ 64)
    then places_from (weight / 10) (n + (d - 48) * weight) ds else None

-- so many ones in millionths, and the digits after the point
abbrev pub millionths_by : (ones : Option ℕ) → (places : List ℕ) → Option ℕ
millionths_by None places = None
millionths_by (Some n) places = if nat_lt (n * 1000000) (2 ^ 64) then places_from 100000 (n * 1000000) places else None

-- the millionths that a text spells, below 2^64
abbrev pub millionths : (text : List ℕ) → Option ℕ
millionths text = millionths_by (number (take (point_in text) text)) (drop (point_in text + 1) text)
