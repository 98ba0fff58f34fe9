-- A decimal number with a sign and an exponent.
-- Source: this project's profile: maybe a sign, digits with a point before, between or behind them, and maybe e or
-- E with a whole number from -99 to 99. Its digits, without the point, are a number below 2^64.
use Rattle.std.specs.Prelude.{ℕ, ◌+◌, ◌-◌, ◌*◌, ◌^◌, Bool, true, false, ◌&&◌, ◌||◌, not, if◌then◌else◌, List, [], ◌∷◌, Option, Some, None, nat_eq, nat_le, nat_lt, ◌≤◌}
use Rattle.record_text.specs.Numbers.{is_digit, number}
use Rattle.record_text.specs.declared.signed.Decimal.{Decimal}

-- a text begins with a digit
abbrev pub begins_digit : (text : List ℕ) → Bool
begins_digit [] = false
begins_digit (b ∷ bs) = is_digit b

-- a text begins with a digit, or with a point and a digit
abbrev pub begins_number : (text : List ℕ) → Bool
begins_number [] = false
begins_number (b ∷ bs) = if nat_eq b 46 then begins_digit bs else is_digit b

-- a number with one digit more, if it is below 2^64
abbrev pub with_digit : (n digit : ℕ) → Option ℕ
with_digit n digit = if nat_lt (10 * n + digit) (2 ^ 64) then Some (10 * n + digit) else None

-- a number up to 99
abbrev pub up_to_99 : Option ℕ → Option ℕ
up_to_99 None = None
up_to_99 (Some n) = if nat_le n 99 then Some n else None

-- the number that the digits of an exponent spell, up to 99
abbrev pub power : (digits : List ℕ) → Option ℕ
power digits = up_to_99 (number digits)

-- digits, of which so many stand after the point, with an exponent
abbrev pub scaled : (minus : Bool) → (n places : ℕ) → (below : Bool) → (power : Option ℕ) → Option Decimal
scaled minus n places below None = None
scaled minus n places true (Some power) = Some (record { is_minus = minus; number = n; up = 0; down = places + power })
scaled minus n places false (Some power) = Some (record { is_minus = minus; number = n; up = power; down = places })

-- the same of the text of the exponent
abbrev pub exponent : (minus : Bool) → (n places : ℕ) → (text : List ℕ) → Option Decimal
exponent minus n places [] = None
exponent minus n places (b ∷ bs) =
    if nat_eq b 45 then scaled minus n places true (power bs)
    else (if nat_eq b 43 then scaled minus n places false (power bs)
    else scaled minus n places false (power (b ∷ bs)))

-- after the digits stands an exponent or nothing
abbrev pub after_digits : (minus : Bool) → (n places letter : ℕ) → (rest : List ℕ) → Option Decimal
after_digits minus n places letter rest =
    if nat_eq letter 101 || nat_eq letter 69 then exponent minus n places rest else None

-- what is said of a number, if there is one
abbrev pub digits_by : Option ℕ → (others : (n : ℕ) → Option Decimal) → Option Decimal
digits_by None others = None
digits_by (Some n) others = others n

-- the digits n, of which so many stand after a point, if there was one, and those that follow. A second point
-- is none
abbrev pub digits_from : (minus behind : Bool) → (n places : ℕ) → (text : List ℕ) → Option Decimal
digits_from minus behind n places [] = Some (record { is_minus = minus; number = n; up = 0; down = places })
digits_from minus behind n places (b ∷ bs) =
    if is_digit b then digits_by (with_digit n (b - 48)) (λ next. digits_from minus behind next (if behind then places + 1 else places) bs)
    else (if nat_eq b 46 && not behind then digits_from minus true n places bs
    else after_digits minus n places b bs)

-- a number without its sign
abbrev pub unsigned : (minus : Bool) → (text : List ℕ) → Option Decimal
unsigned minus text = if begins_number text then digits_from minus false 0 0 text else None

-- the decimal number that a text spells
abbrev pub decimal : (text : List ℕ) → Option Decimal
decimal [] = None
decimal (b ∷ bs) =
    if nat_eq b 45 then unsigned true bs
    else (if nat_eq b 43 then unsigned false bs else unsigned false (b ∷ bs))

-- the exponents of a number fit into 64 bits with room to spare
abbrev pub IsSmall : Decimal → Type 0
IsSmall decimal = (decimal.up ≤ 99) × (decimal.down ≤ 2 ^ 63 + 99)
