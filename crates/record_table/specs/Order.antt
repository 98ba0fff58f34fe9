-- In which order a table says levels, and within which limits.
-- Source: this project's profile.
use Rattle.std.specs.Prelude.{ℕ, List, [], ◌∷◌, Option, Some, ⊤}
use Rattle.record_levels.specs.Limits.{EndsAt, Follows}
use Rattle.record_table.specs.Changes.{Said}
use Rattle.record_table.specs.Changes.Said.{Change, Refused, Ends}

-- what is said after levels at the last time, if any were: levels at later times, each no more than a day
-- later and all below 1,000 hours, and the end not before the last of them
abbrev pub AreInOrder : (last : Option ℕ) → List Said → Type 0
AreInOrder last [] = ⊤
AreInOrder last (Change levels ∷ others) = Follows last levels.time_ns × AreInOrder (Some levels.time_ns) others
AreInOrder last (Refused fault ∷ others) = ⊤
AreInOrder last (Ends time ∷ others) = EndsAt last time
