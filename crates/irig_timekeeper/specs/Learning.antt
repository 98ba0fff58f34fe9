-- What a device has learned of its counter.
-- Source: this project's profile.
use Rattle.std.specs.Prelude.{◌≡◌, ℕ, ◌+◌, ◌/◌, ◌<◌, ◌≤◌, Option, Some}
use Rattle.irig_lines.specs.declared.pace.Pace.{Pace}
use Rattle.irig_timekeeper.specs.Truth.{IsEdgeAt}

-- by the counter's oscillator the second lasts as long as was learned, but for what it may be off
pub record IsSecondBy (ns : ℕ → ℕ) (p : Pace) (second : ℕ) : Type 0 where
  pub least : ns second + p.second_ns ≤ ns (second + 1) + p.within_ns
  pub most : ns (second + 1) ≤ ns second + p.second_ns + p.within_ns

-- the device's edge at the last tick is that of T(w), by its counter, whose oscillator has come to `ns n` at
-- T(n), in nanoseconds; so long is each of the 2,000 seconds from T(w) on
pub record IsLearned (edges : ℕ → ℕ) (tick : ℕ) (edge_us : Option ℕ) (p : Pace) : Type 0 where
  pub w : ℕ
  pub e : ℕ
  pub edge : ℕ
  pub told : edge_us ≡ Some e
  pub at : IsEdgeAt e edge tick
  pub ns : ℕ → ℕ
  pub clock : (n : ℕ) → edges n ≡ ns n / 1000
  pub each : (second : ℕ) → w ≤ second → second < w + 2000 → IsSecondBy ns p second
