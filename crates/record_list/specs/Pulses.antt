-- Which lines are high at a time, by pulses.
-- Source: this project's profile.
use Rattle.std.specs.Prelude.{ℕ, Bool, ◌&&◌, if◌then◌else◌, List, [], ◌∷◌, filter, nat_le, nat_lt, bit_or}
use Rattle.record_list.specs.declared.pulse.Pulse.{Pulse}

-- a pulse has risen at a time or before, and has not ended yet
abbrev pub is_on : Pulse → (time : ℕ) → Bool
is_on pulse time = nat_le pulse.from_ns time && nat_lt time pulse.to_ns

-- lines that are high, and that of a pulse, if it is on
abbrev pub with_pulse : (high : ℕ) → Pulse → (time : ℕ) → ℕ
with_pulse high pulse time = if is_on pulse time then bit_or high pulse.bit else high

-- lines that are high, and those of which one of these pulses is on
abbrev pub high_from : (high : ℕ) → List Pulse → (time : ℕ) → ℕ
high_from high [] time = high
high_from high (pulse ∷ pulses) time = high_from (with_pulse high pulse time) pulses time

-- a line is high at a time exactly if one of its pulses is on
abbrev pub high_at : List Pulse → (time : ℕ) → ℕ
high_at pulses time = high_from 0 pulses time

-- the pulses that have not ended at a time
abbrev pub unended : List Pulse → (time : ℕ) → List Pulse
unended pulses time = filter (λ pulse. nat_lt time pulse.to_ns) pulses
