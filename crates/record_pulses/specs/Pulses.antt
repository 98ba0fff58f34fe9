-- The pulses of a recorded line, by one polarity. Its changes, without glitches, are listed the newest
-- first, and so are the pulses; what the recording begins with is the oldest change. Times of changes
-- are in nanoseconds.
-- Source: this project's profile.
use Rattle.std.specs.Prelude.{◌≡◌, ℕ, ◌+◌, ◌-◌, ◌*◌, ◌/◌, ◌^◌, ◌<◌, ◌≤◌, Bool, true, false, not, min, if◌then◌else◌, List, [], ◌∷◌, ◌++◌, Option, Some, None, nat_le, ⊤, ◌⊎◌}
use Rattle.record_pulses.specs.declared.edge.Edge.{Edge}
use Rattle.record_pulses.specs.declared.edge.Pulse.{Pulse}
use Rattle.record_pulses.specs.declared.pulses.Pulses.{Pulses}
use Rattle.record_pulses.specs.Glitches.{same_level}

-- a time to the nearest microsecond; half of one goes up
abbrev pub nearest_us : ℕ → ℕ
nearest_us time = (time + 500) / 1000

-- the widest that a pulse is told
abbrev pub widest_us : ℕ
widest_us = 2 ^ 32 - 1

-- the pulse that rises and ends then
abbrev pub pulse_between : (rise end : ℕ) → Pulse
pulse_between rise end =
    record { rise_us = nearest_us rise; width_us = min (nearest_us (end - rise)) widest_us }

-- a pulse, if there is one, and those before it
abbrev pub with_pulse : Option Pulse → List Pulse → List Pulse
with_pulse None pulses = pulses
with_pulse (Some p) pulses = p ∷ pulses

-- when the line rose to the polarity's level, if that is its last change; what the recording begins
-- with is not one
abbrev pub rise_of : Bool → List Edge → Option ℕ
rise_of polarity (c ∷ (b ∷ rest)) =
    if same_level c.is_high polarity then Some c.time_ns else None
rise_of polarity edges = None

-- the pulse that ends with a change, by when it rose
abbrev pub pulse_by : Bool → Edge → Option ℕ → Option Pulse
pulse_by polarity d None = None
pulse_by polarity d (Some rise) =
    if same_level d.is_high polarity then None else Some (pulse_between rise d.time_ns)

-- the pulse that ends with a change after others
abbrev pub pulse_ended : Bool → Edge → List Edge → Option Pulse
pulse_ended polarity d before = pulse_by polarity d (rise_of polarity before)

-- all pulses
abbrev pub pulses_of : Bool → List Edge → List Pulse
pulses_of polarity [] = []
pulses_of polarity (d ∷ before) =
    with_pulse (pulse_ended polarity d before) (pulses_of polarity before)

-- some came
abbrev pub has_any : List Edge → Bool
has_any [] = false
has_any (c ∷ rest) = true

-- to `pulses` these changes came
pub record ArePulsesOf (pulses : Pulses) (edges : List Edge) : Type 0 where
  pub begun : pulses.has_begun ≡ has_any edges
  pub rise : pulses.rise_ns ≡ rise_of pulses.is_high edges

-- ---- a pulse on its line

-- this is one of those pulses
abbrev pub IsOneOf : Pulse → List Pulse → Type 0
IsOneOf p [] = ⊥
IsOneOf p (q ∷ rest) = (p ≡ q) ⊎ IsOneOf p rest

-- each comes at the time of the one before it or later
abbrev pub AreInTurn : List Edge → Type 0
AreInTurn [] = ⊤
AreInTurn (d ∷ []) = ⊤
AreInTurn (d ∷ (c ∷ rest)) = (c.time_ns ≤ d.time_ns) × AreInTurn (c ∷ rest)

-- the level of a line at a time: that of the last change until then
abbrev pub level_at : ℕ → List Edge → Option Bool
level_at time [] = None
level_at time (c ∷ rest) = if nat_le c.time_ns time then Some c.is_high else level_at time rest

-- so many microseconds are so many nanoseconds, to half a microsecond
pub record IsNearest (us ns : ℕ) : Type 0 where
  pub least : us * 1000 ≤ ns + 500
  pub most : ns < us * 1000 + 500

-- a pulse lies between two changes in a row of a line. From its rise to its end the line has the
-- polarity's level, and at its end it has the other one
pub record IsOnLine (polarity : Bool) (edges : List Edge) (pulse : Pulse) : Type 0 where
  pub after : List Edge
  pub end : Edge
  pub rise : Edge
  pub before : List Edge
  pub in_a_row : edges ≡ after ++ end ∷ rise ∷ before
  pub up : rise.is_high ≡ polarity
  pub down : end.is_high ≡ not polarity
  pub stays : (time : ℕ) → rise.time_ns ≤ time → time < end.time_ns
      → level_at time edges ≡ Some polarity
  pub rises : IsNearest pulse.rise_us rise.time_ns
  pub wide : (pulse.width_us < widest_us → IsNearest pulse.width_us (end.time_ns - rise.time_ns))
      × (pulse.width_us ≡ widest_us → widest_us * 1000 ≤ end.time_ns - rise.time_ns + 500)
