-- Changes of lines, in the order in which they came.
-- Source: this project's profile.
use Rattle.std.specs.Prelude.{ℕ, ◌==◌, if◌then◌else◌, List, [], ◌∷◌, ◌++◌}
use Rattle.record_pulses.specs.declared.edge.Edge.{Edge}
use Rattle.record_lines.specs.declared.change.Change.{Change}

-- a change, of its line
abbrev pub edge_of : Change → Edge
edge_of c = record { time_ns = c.time_ns; is_high = c.is_high }

-- those of a line among some changes, the newest first
abbrev pub changes_on : (line : ℕ) → List Change → List Edge
changes_on line [] = []
changes_on line (c ∷ rest) = changes_on line rest ++ (if c.line == line then edge_of c ∷ [] else [])
