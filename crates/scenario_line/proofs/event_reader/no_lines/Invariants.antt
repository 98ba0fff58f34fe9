use Rattle.std.proofs.Common.{All, ℕ, List}
use Rattle.std.specs.Option.{ForSome}
use Rattle.scenario_line.specs.KnownLines.{IsKnown}
use Rattle.scenario_line.proofs.event_reader.no_lines.Given as goal

abbrev pub invariant-loop : goal.invariant-loop
invariant-loop l = (names : List (List ℕ)) → All (λ line. ForSome line (IsKnown names)) l.known.items
