-- The numbers by which users know faults and refusals.
-- Source: docs/FAULTS.md.
use Rattle.std.specs.Prelude.{ℕ, Bool, ◌&&◌, nat_le}

-- 1 to 37
abbrev pub is_number : ℕ → Bool
is_number n = nat_le 1 n && nat_le n 37
