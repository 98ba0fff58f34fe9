-- Elements of a line by a device's true oscillator, and how late pulses of them may be.
-- The counter does not wrap here.
-- Source: this project's profile.
use Rattle.std.specs.Prelude.{◌≡◌, ℕ, ◌+◌, ◌-◌, ◌*◌, ◌/◌, ◌<◌, ◌≤◌, List, [], ◌∷◌, ⊤}
use Rattle.irig_frame.specs.declared.symbol.Symbol.{Symbol}
use Rattle.irig_frame.specs.Symbols.{symbol_of}
use Rattle.irig_sync.specs.Lines.{Pulse}
use Rattle.irig_wires.specs.Oscillator.{counter_at}
use Rattle.irig_lines.specs.Exactness.{most_drift_us, most_within_us}

-- the element that begins less than 450 us from a rise, if there is one: it can be no other
abbrev pub element_near : (first rate : ℕ) → ℕ → ℕ
element_near first rate rise = 100 * (rise + most_within_us - first) / rate

-- it counts at most d us a second more or less than a million
pub record KeepsRate (d rate : ℕ) : Type 0 where
  pub least : 1000000 ≤ rate + d
  pub most : rate ≤ 1000000 + d
  pub few : d ≤ most_drift_us

-- when the k-th element truly begins, in microseconds behind where T(0) began
abbrev pub begins_at : ℕ → ℕ
begins_at k = k * 10000

-- the pulses, the newest first, are those of some elements before the k-th, in order. Each rose
-- between `least` and `most` us of true time behind its element's begin, and `taken` us are taken
-- off its rise
abbrev pub AreLatePulses : (ℕ → Symbol) → (first rate least most taken : ℕ) → ℕ → List Pulse
    → Type 0
AreLatePulses line first rate least most taken k [] = ⊤
AreLatePulses line first rate least most taken k (p ∷ ps) =
    (j : ℕ) × (j < k) × (symbol_of p.width ≡ line j)
    × ((late : ℕ) × (least ≤ late) × (late ≤ most)
    × (p.rise + taken ≡ counter_at first rate (begins_at j + late)))
    × AreLatePulses line first rate least most taken j ps

-- a line is so late: its pulses are those of some elements, and what its device takes off leaves
-- less than it allows, but for 1 us
pub record IsLateLine (within : ℕ) (line : ℕ → Symbol) (first rate : ℕ) (pulses : List Pulse)
    : Type 0 where
  pub next : ℕ
  pub least : ℕ
  pub most : ℕ
  pub taken : ℕ
  pub small : most < 10000
  pub high : most + 1 < within + taken
  pub low : taken + 1 < within + least
  pub are : AreLatePulses line first rate least most taken next pulses
