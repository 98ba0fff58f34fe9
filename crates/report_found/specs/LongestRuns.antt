-- What it is for a stretch or a silence to be a longest run of a reader's ticks, the newest first.
use Rattle.std.specs.Prelude.{◌≡◌, ℕ, Bool, true, false, ◌&&◌, List, [], ◌∷◌, ◌++◌, All, count_by, ⊤, Option, Some, None}
use Rattle.report_found.specs.declared.kind.Kind.{Kind}
use Rattle.report_found.specs.declared.kind.Kind.TheVariants.{Agreed}
use Rattle.report_found.specs.declared.stretch.Silence.{Silence}
use Rattle.report_found.specs.declared.stretch.Stretch.{Stretch}
use Rattle.report_found.specs.declared.tick.Tick.{Tick}
use Rattle.report_found.specs.Kinds.{same_kind}
use Rattle.report_log.specs.Offsets.{same_offset}
use Rattle.report_found.specs.Stretches.{goes_on}
use Rattle.report_found.specs.Ticks.{kind_at, is_announced, is_untrue, offset_at}

-- the newest of some ticks has another kind, or there is none
abbrev pub IsBroken : ℕ → Kind → List Tick → Type 0
IsBroken port kind [] = ⊤
IsBroken port kind (t ∷ ts) = same_kind kind (kind_at port t) ≡ false

-- the newest of some ticks
abbrev pub newest : List Tick → Option Tick
newest [] = None
newest (t ∷ ts) = Some t

-- whether a port is as far off at each of some ticks as at the first
abbrev pub is_steady : ℕ → Tick → List Tick → Bool
is_steady port first [] = true
is_steady port first (t ∷ ts) =
    same_offset (offset_at port first) (offset_at port t) && is_steady port first ts

-- the stretch has the newest ticks, from its first on, which are all of its kind, and the one before
-- is not; the kind is not agreed; its last tick is the newest, it says whether the port was as far
-- off at each, and its counts are those of its ticks
pub record IsLongest (port : ℕ) (ts : List Tick) (s : Stretch) : Type 0 where
  pub later : List Tick
  pub before : List Tick
  pub parts : ts ≡ (later ++ s.first ∷ []) ++ before
  pub kinds : All (λ t. same_kind s.kind (kind_at port t) ≡ true) (later ++ s.first ∷ [])
  pub broken : IsBroken port s.kind before
  pub wrong : same_kind s.kind Agreed ≡ false
  pub last : newest (later ++ s.first ∷ []) ≡ Some s.last
  pub steady : s.steady ≡ is_steady port s.first later
  pub announced : s.announced ≡ count_by is_announced (later ++ s.first ∷ [])
  pub untrue : s.untrue ≡ count_by is_untrue (later ++ s.first ∷ [])

-- ---- silences

-- the newest of some ticks is not of the silence, or there is none
abbrev pub IsEnded : Silence → List Tick → Type 0
IsEnded s [] = ⊤
IsEnded s (t ∷ ts) = goes_on s t ≡ false

-- the silence has the newest ticks, from its first on, at which nothing is announced, for its cause,
-- and the one before is not so; its last tick is the newest
pub record IsLongestSilence (ts : List Tick) (s : Silence) : Type 0 where
  pub later : List Tick
  pub before : List Tick
  pub parts : ts ≡ (later ++ s.first ∷ []) ++ before
  pub silent : All (λ t. goes_on s t ≡ true) (later ++ s.first ∷ [])
  pub ended : IsEnded s before
  pub last : newest (later ++ s.first ∷ []) ≡ Some s.last
