-- In which order samples say levels.
-- Source: this project's profile.
use Rattle.std.specs.Prelude.{ℕ, ◌≤◌, List, [], ◌∷◌, ⊤}
use Rattle.record_comtrade.specs.Samples.{Said}
use Rattle.record_comtrade.specs.Samples.Said.{Change, Refused, Ends}

-- levels that come one after another, none before the last time
abbrev pub AreLater : (last : ℕ) → List Said → Type 0
AreLater last [] = ⊤
AreLater last (Change levels ∷ others) = (last ≤ levels.time_ns) × AreLater levels.time_ns others
AreLater last (Refused fault ∷ others) = ⊤
AreLater last (Ends time ∷ others) = ⊤
