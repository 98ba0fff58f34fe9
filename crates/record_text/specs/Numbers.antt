-- The whole number that a word of a recording spells.
-- Source: this project's profile; a number is kept in 64 bits.
use Rattle.std.specs.Prelude.{ℕ, ◌+◌, ◌-◌, ◌*◌, ◌^◌, Bool, ◌&&◌, if◌then◌else◌, List, [], ◌∷◌, Option, Some, None, nat_lt, nat_le}

-- the code of a digit
abbrev pub is_digit : ℕ → Bool
is_digit code = nat_le 48 code && nat_le code 57

-- the number that begins with n and goes on with these digits, if all are digits and it is below 2^64
abbrev pub number_from : (n : ℕ) → (digits : List ℕ) → Option ℕ
number_from n [] = Some n
number_from n (d ∷ ds) =
    if is_digit d && nat_lt (10 * n + (d - 48)) (2 ^ 64) then number_from (10 * n + (d - 48)) ds else None

-- the number that digits spell, at least one
abbrev pub number : List ℕ → Option ℕ
number [] = None
number (d ∷ ds) = number_from 0 (d ∷ ds)
