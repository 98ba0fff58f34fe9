-- A line that was read before: it is kept with what it asks for.
-- Source: this project's profile.
use Rattle.std.specs.Prelude.{◌≡◌, ℕ, List, Ok}
use Rattle.scenario_line.specs.EventLine.{command_in_line}
use Rattle.scenario_line.specs.declared.event_reader.KnownLine.{KnownLine}

-- by the names of the readers in order
abbrev pub IsKnown : List (List ℕ) → KnownLine → Type 0
IsKnown names k = command_in_line names k.line.items ≡ Ok k.command
