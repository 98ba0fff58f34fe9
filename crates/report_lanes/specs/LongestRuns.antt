-- What it is for a lane to be a longest run of a reader's ticks, the newest first.
use Rattle.std.specs.Prelude.{◌≡◌, ℕ, true, false, List, [], ◌∷◌, ◌++◌, All, ⊤, Some}
use Rattle.report_found.specs.declared.stretch.Stretch.{Stretch}
use Rattle.report_found.specs.declared.tick.Tick.{Tick}
use Rattle.report_found.specs.LongestRuns.{newest}
use Rattle.report_lanes.specs.declared.lane.Lane.{Lane}
use Rattle.report_lanes.specs.declared.lane.Shows.TheVariants as shows
use Rattle.report_lanes.specs.Lanes.{are_alike}

-- at the newest of some ticks something else is to be seen, or there is none
abbrev pub IsOther : (Tick → Lane) → Lane → List Tick → Type 0
IsOther seen lane [] = ⊤
IsOther seen lane (t ∷ ts) = are_alike lane.shows (seen t).shows ≡ false

-- the lane has the newest ticks, from one on, at which the same is to be seen as at that one, and the
-- one before is not so; its edges are those of the first and the last of them
pub record IsLongest (seen : Tick → Lane) (ts : List Tick) (lane : Lane) : Type 0 where
  pub later : List Tick
  pub begins : Tick
  pub ends : Tick
  pub before : List Tick
  pub parts : ts ≡ (later ++ begins ∷ []) ++ before
  pub alike : All (λ t. are_alike lane.shows (seen t).shows ≡ true) (later ++ begins ∷ [])
  pub other : IsOther seen lane before
  pub shows : lane.shows ≡ (seen begins).shows
  pub reader : lane.reader ≡ (seen begins).reader
  pub first : lane.first ≡ (seen begins).first
  pub newest : newest (later ++ begins ∷ []) ≡ Some ends
  pub last : lane.last ≡ (seen ends).last

-- a lane has the port, the kind and the edges of a stretch
pub record IsOfStretch (port : ℕ) (s : Stretch) (lane : Lane) : Type 0 where
  pub shows : lane.shows ≡ shows.Told port s.kind
  pub first : lane.first ≡ s.first.entry.edge
  pub last : lane.last ≡ s.last.entry.edge
