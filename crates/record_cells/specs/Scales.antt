-- Decimal numbers as whole ones.
-- Source: this project's profile: what is less than one is left out.
use Rattle.std.specs.Prelude.{ℕ, ◌-◌, ◌*◌, ◌/◌, ◌^◌, if◌then◌else◌, Option, Some, None, nat_le, nat_lt}

-- a number, if it is below an end
abbrev pub below : (end n : ℕ) → Option ℕ
below end n = if nat_lt n end then Some n else None

-- n times 10 to the power of up, divided by 10 to the power of down, rounded down
abbrev pub scaled : (n up down : ℕ) → ℕ
scaled n up down = if nat_le down up then n * 10 ^ (up - down) else n / 10 ^ (down - up)
