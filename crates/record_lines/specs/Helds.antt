-- Changes that wait to be played.
-- Source: this project's profile.
use Rattle.std.specs.Prelude.{◌≡◌, ℕ, ◌+◌, ◌-◌, ◌<◌, ◌≤◌, ◌==◌, Bool, nat_le, if◌then◌else◌, List, [], ◌++◌, drop, length, Option, option_to_list}
use Rattle.record_lines.specs.declared.change.Held.{Held}
use Rattle.record_lines.specs.Changes.{changes_on}
use Rattle.record_pulses.specs.declared.edge.Edge.{Edge}

-- for so many there is room
abbrev pub room : Held → ℕ
room h = 4096 - length h.changes.items

-- there is room for what a recording says at one time
abbrev pub has_room : Held → Bool
has_room h = nat_le (length h.changes.items + 10) 4096

-- the changes of a line that wait, the newest first
abbrev pub waiting_on : (line : ℕ) → Held → List Edge
waiting_on line h = changes_on line (drop h.played h.changes.items)

-- a change of a line waits too, if there is one and room for it
pub record HoldsMore (old new : Held) (line : ℕ) (edge : Option Edge) : Type 0 where
  pub played : new.played ≡ old.played
  pub fits : room old ≤ room new + 1
  pub wait : 0 < room old → (other : ℕ) → waiting_on other new
      ≡ (if line == other then option_to_list edge else []) ++ waiting_on other old
