-- Frames that came whole to an empty port, and what came after them.
-- Source: docs/EXACTLY_WHEN.md, voted edges; docs/SCENARIOS.md.
use Rattle.std.specs.Prelude.{◌≡◌, ◌⊎◌, ℕ, ◌+◌, ◌<◌, ◌≤◌, Bool, false, ◌==◌, ◌&&◌, List, [], ◌∷◌, ◌++◌, length, All, None}
use Rattle.irig_vote.specs.Vote.{ports_in, redundancy_of}
use Rattle.irig_plant.specs.declared.event.Event.{Event}
use Rattle.irig_plant.specs.declared.event.Event.TheVariants.{Tick, Carry, Damage, Replay, Raw, Restart}
use Rattle.irig_plant.specs.Schedule.{Setup, generator_at, empties, heard_at, ticks_of}
use Rattle.irig_vote.specs.Counts.{AtLeast}
use Rattle.irig_plant.specs.Ports.{f_in}

-- whether the event brings pulses to port p of reader r
abbrev pub delivers_to : ℕ → ℕ → Event → Bool
delivers_to r p (Carry g q) = (q == r) && (g == p)
delivers_to r p (Damage g q at width) = (q == r) && (g == p)
delivers_to r p (Replay g q edge) = (q == r) && (g == p)
delivers_to r p (Raw g q widths) = (q == r) && (g == p)
delivers_to r p _ = false

-- the event leaves alone what port p of reader r heard: it brings it no pulses, and is no tick or
-- restart of r
pub record SparesPort (r p : ℕ) (e : Event) : Type 0 where
  pub brings_none : delivers_to r p e ≡ false
  pub keeps : empties r e ≡ false

-- a frame of generator p came whole to reader r, and was spared since: its port was empty, and the
-- generator had no fault and stood at the edge of r's last tick
pub record HasWholeCarry (s : Setup) (r : ℕ) (ev : List Event) (p : ℕ) : Type 0 where
  pub later : List Event
  pub earlier : List Event
  pub carry : ev ≡ later ++ (Carry p r ∷ earlier)
  pub spared : All (SparesPort r p) later
  pub port : p < ports_in (redundancy_of (length s.generators))
  pub empty : heard_at s r p earlier ≡ []
  pub faultless : (generator_at s p earlier).fault ≡ None
  pub edge : (generator_at s p earlier).edge ≡ ticks_of r earlier

-- at each of the count ticks of r up to its n-th at least f + 1 ports had such a frame, and each
-- restart of r comes before these ticks or after them
pub record HasWholeRun (s : Setup) (r : ℕ) (ev : List Event) (n count : ℕ) : Type 0 where
  pub fits : count ≤ n
  pub carried : (later earlier : List Event) → ev ≡ later ++ (Tick r ∷ earlier)
      → n ≤ ticks_of r earlier + count → ticks_of r earlier < n
      → AtLeast (f_in s + 1) (HasWholeCarry s r earlier)
  pub unbroken : (later earlier : List Event) → ev ≡ later ++ (Restart r ∷ earlier)
      → (ticks_of r earlier + count ≤ n) ⊎ (n ≤ ticks_of r earlier)
