-- In which order a list says levels.
-- Source: this project's profile.
use Rattle.std.specs.Prelude.{ℕ, ◌<◌, List, [], ◌∷◌, Option, Some, None, ⊤}
use Rattle.record_list.specs.Changes.{Said}
use Rattle.record_list.specs.Changes.Said.{Change, Refused, Ends}

-- a time lies after the last, if there is one
abbrev pub IsAfter : (last : Option ℕ) → (time : ℕ) → Type 0
IsAfter None time = ⊤
IsAfter (Some last) time = last < time

-- what is said after levels at the last time, if any were: levels at later times
abbrev pub AreInOrder : (last : Option ℕ) → List Said → Type 0
AreInOrder last [] = ⊤
AreInOrder last (Change levels ∷ others) = IsAfter last levels.time_ns × AreInOrder (Some levels.time_ns) others
AreInOrder last (Refused fault ∷ others) = AreInOrder last others
AreInOrder last (Ends time ∷ others) = AreInOrder last others
