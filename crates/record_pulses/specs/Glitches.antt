-- A recorded line without glitches. Its changes are listed the oldest first, and what a recording
-- begins with is a change too. Times are in nanoseconds.
-- Source: this project's profile.
use Rattle.std.specs.Prelude.{◌≡◌, ℕ, ◌+◌, ◌-◌, ◌≤◌, Bool, true, false, not, nat_le, if◌then◌else◌, List, [], ◌∷◌, Option, Some, None, ⊤}
use Rattle.record_pulses.specs.declared.edge.Edge.{Edge}
use Rattle.record_pulses.specs.declared.steady.Steady.{Steady}

-- two levels are the same
abbrev pub same_level : Bool → Bool → Bool
same_level true level = level
same_level false level = not level

-- a line has this level
abbrev pub has_level : Option Bool → Bool → Bool
has_level None level = false
has_level (Some now) level = same_level now level

-- the changes to another level, on a line that has a level, or none yet
abbrev pub changes_from : Option Bool → List Edge → List Edge
changes_from now [] = []
changes_from now (c ∷ rest) =
    if has_level now c.is_high then changes_from now rest
    else c ∷ changes_from (Some c.is_high) rest

-- a level lasts for as long as is asked from its time to another one
abbrev pub lasts : ℕ → ℕ → ℕ → Bool
lasts shortest from to = nat_le shortest (to - from)

-- changes without the levels that last for less: on a line that has begun such a level is left out
-- together with the change back; before that it alone, and the change after it may be the first. The
-- last change stays
abbrev pub lasting : (shortest : ℕ) → (has_begun : Bool) → List Edge → List Edge
lasting shortest has_begun [] = []
lasting shortest has_begun (c ∷ []) = c ∷ []
lasting shortest has_begun (c ∷ (d ∷ rest)) =
    if lasts shortest c.time_ns d.time_ns then c ∷ lasting shortest true (d ∷ rest)
    else (if has_begun then lasting shortest true rest else lasting shortest false (d ∷ rest))

-- a line without glitches
abbrev pub without_glitches : ℕ → List Edge → List Edge
without_glitches shortest edges = lasting shortest false (changes_from None edges)

-- ---- in order of time

-- these come at a time or later
abbrev pub AreFrom : ℕ → List Edge → Type 0
AreFrom now [] = ⊤
AreFrom now (c ∷ rest) = (now ≤ c.time_ns) × AreFrom now rest

-- each comes at the time of the one before it or later
abbrev pub AreInOrder : List Edge → Type 0
AreInOrder [] = ⊤
AreInOrder (c ∷ rest) = AreFrom c.time_ns rest × AreInOrder rest

-- each is to the other level than the one before it, and so much later or more
abbrev pub IsSteady : ℕ → List Edge → Type 0
IsSteady shortest [] = ⊤
IsSteady shortest (c ∷ []) = ⊤
IsSteady shortest (c ∷ (d ∷ rest)) =
    (c.time_ns + shortest ≤ d.time_ns) × (d.is_high ≡ not c.is_high)
    × IsSteady shortest (d ∷ rest)

-- ---- what is still to come

-- a change, if there is one, before others
abbrev pub with_edge : Option Edge → List Edge → List Edge
with_edge None edges = edges
with_edge (Some c) edges = c ∷ edges

-- what comes out from now on, if these edges follow and then the end
abbrev pub to_come : Steady → List Edge → List Edge
to_come s edges =
    lasting s.shortest_ns s.has_begun (with_edge s.waiting (changes_from s.level edges))

-- the change, if its level has lasted long enough by then
abbrev pub ripe_by : (shortest now : ℕ) → Option Edge → Option Edge
ripe_by shortest now None = None
ripe_by shortest now (Some c) = if lasts shortest c.time_ns now then Some c else None

-- the change that waits on a line, if its level has lasted long enough by then
abbrev pub ripe_at : ℕ → Steady → Option Edge
ripe_at now s = ripe_by s.shortest_ns now s.waiting

-- what waits, if anything does, has lasted long enough by then
abbrev pub IsRipe : ℕ → Steady → Type 0
IsRipe now s = ripe_at now s ≡ s.waiting
