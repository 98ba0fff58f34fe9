-- When the frames and the elements of a line begin, by a counter that drifts against the line, in
-- microseconds. The counter does not wrap here.
-- Source: IRIG Standard 200-16, format B: a frame each second, of a hundred elements 10 ms apart.
-- The bounds are this project's profile.
use Rattle.std.specs.Prelude.{ℕ, ◌+◌, ◌-◌, ◌*◌, ◌/◌, ◌%◌, ◌≤◌}

-- the line's n-th frame begins at `edges n`: the counter runs at most d us a second wrong
pub record IsSteady (d : ℕ) (edges : ℕ → ℕ) : Type 0 where
  pub least : (n : ℕ) → edges n + 1000000 ≤ edges (n + 1) + d
  pub most : (n : ℕ) → edges (n + 1) ≤ edges n + 1000000 + d

-- how long the second of the n-th frame is
abbrev pub second_long : (ℕ → ℕ) → ℕ → ℕ
second_long edges n = edges (n + 1) - edges n

-- when the line's k-th element begins: its frame's begin and as many hundredths of its second as
-- elements of the frame stand before it, so that the counter's drift moves no element off
abbrev pub element_at : (ℕ → ℕ) → ℕ → ℕ
element_at edges k = edges (k / 100) + second_long edges (k / 100) * (k % 100) / 100

-- so much longer or shorter an element is at most, by a counter that runs d us a second wrong
abbrev pub element_drift : ℕ → ℕ
element_drift d = (d + 99) / 100

-- by such a counter pulses are told apart that rise less than `off` us from their elements' times:
-- those of neighbours rise 9 ms apart or more, and less than 11
pub record IsClock (d off : ℕ) (edges : ℕ → ℕ) : Type 0 where
  pub steady : IsSteady d edges
  pub near : 2 * off + element_drift d ≤ 1001
