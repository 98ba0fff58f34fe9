-- Counts of 64 bits, and the least, the most and the sum of some times.
-- Source: this project's profile.
use Rattle.std.specs.Prelude.{◌≡◌, ℕ, ◌+◌, ◌-◌, ◌^◌, min, max, List, [], ◌∷◌, length, Option, Some, None}
use Rattle.record_pulses.specs.declared.spread.Spread.{Spread}

-- what 64 bits show of a number: it stays at the most that they hold
abbrev pub counted : ℕ → ℕ
counted n = min n (2 ^ 64 - 1)

-- the least of some times, the newest first; of none 0
abbrev pub least_of : List ℕ → ℕ
least_of [] = 0
least_of (x ∷ []) = x
least_of (x ∷ (y ∷ rest)) = min (least_of (y ∷ rest)) x

-- the most; of none 0
abbrev pub most_of : List ℕ → ℕ
most_of [] = 0
most_of (x ∷ rest) = max (most_of rest) x

-- what they add up to
abbrev pub total_of : List ℕ → ℕ
total_of [] = 0
total_of (x ∷ rest) = total_of rest + x

-- this is what these times are
pub record IsSpreadOf (spread : Spread) (times : List ℕ) : Type 0 where
  pub count : spread.count ≡ counted (length times)
  pub least : spread.least_us ≡ least_of times
  pub most : spread.most_us ≡ most_of times
  pub total : spread.sum_us ≡ counted (total_of times)

-- a time, if there is one, and those before it
abbrev pub with_time : Option ℕ → List ℕ → List ℕ
with_time None times = times
with_time (Some x) times = x ∷ times
