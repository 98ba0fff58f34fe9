-- Lines: the pulses that came, and a line of true frames. Times here are those of a clock that does
-- not wrap.
-- Source: docs/FRAME.md; IRIG Standard 200-16, format B.
use Rattle.std.specs.Prelude.{◌≡◌, ℕ, suc, ◌+◌, ◌-◌, ◌%◌, ◌^◌, ◌<◌, ◌≤◌, ◌⊎◌, true, List, [], ◌∷◌, ◌++◌, Some, slice_get, ⊤}
use Rattle.irig_frame.specs.declared.symbol.Symbol.{Symbol}
use Rattle.irig_frame.specs.Symbols.{symbol_of}
use Rattle.irig_frame.specs.Decoder.{IsRight}
use Rattle.irig_sync.specs.declared.sync.Sync.{Sync}
use Rattle.irig_sync.specs.Edges.{element_at}
use Rattle.irig_sync.specs.Sync.{is_marker_symbol, is_marker, is_on_time, place_at, flag}

-- a pulse, by its leading edge and its width in microseconds
pub record Pulse : Type 0 where
  pub rise : ℕ
  pub width : ℕ

-- the pulse that rose then and is so wide
abbrev pub pulse_at : ℕ → ℕ → Pulse
pulse_at rise width = record { rise = rise; width = width }

-- the place of the last of some pulses, the newest first; a marker on an idle line begins a frame
abbrev pub place_after : List Pulse → ℕ
place_after [] = 0
place_after (p ∷ []) = flag (is_marker p.width)
place_after (p ∷ (q ∷ ps)) =
    place_at (is_on_time (p.rise - q.rise)) (is_marker p.width) (is_marker q.width)
    (place_after (q ∷ ps))

-- the last pulse that came; where none came, a marker begins a frame
abbrev pub IsLast : Sync → List Pulse → Type 0
IsLast s [] = s.was_marker ≡ 1
IsLast s (p ∷ ps) = (s.rise_us ≡ p.rise % 2 ^ 32) × (s.was_marker ≡ flag (is_marker p.width))

-- the numbers are those of a synchroniser to which these pulses came, the newest first
pub record IsSyncOf (s : Sync) (pulses : List Pulse) : Type 0 where
  pub place : s.place ≡ place_after pulses
  pub last : IsLast s pulses

-- the time is not before the last pulse's, and less than a turn of the clock behind it
abbrev pub IsInTurn : List Pulse → ℕ → Type 0
IsInTurn [] time = ⊤
IsInTurn (p ∷ ps) time = (p.rise ≤ time) × (time < p.rise + 2 ^ 32)

-- of the last n pulses each but the first came on time behind the one before
abbrev pub AreOnTime : ℕ → List Pulse → Type 0
AreOnTime (suc (suc n)) (p ∷ (q ∷ ps)) =
    (is_on_time (p.rise - q.rise) ≡ true) × AreOnTime (suc n) (q ∷ ps)
AreOnTime (suc (suc n)) _ = ⊥
AreOnTime _ _ = ⊤

-- the symbols of the last n of some pulses, the oldest first; the pulses are the newest first
abbrev pub symbols_of_last : ℕ → List Pulse → List Symbol
symbols_of_last (suc n) (p ∷ ps) = symbols_of_last n ps ++ symbol_of p.width ∷ []
symbols_of_last _ _ = []

-- a line of true frames: a marker at each marker element of a frame, and a 0 or a 1 elsewhere
abbrev pub IsTrueLine : (ℕ → Symbol) → Type 0
IsTrueLine line = (k : ℕ) → IsRight (k % 100) (Some (line k))

-- the places that a synchroniser gives the elements of the line from the a-th on, each on time, in
-- whatever state it was before
abbrev pub ArePlacesFrom : (ℕ → Symbol) → ℕ → (ℕ → ℕ) → Type 0
ArePlacesFrom line a places =
    (k : ℕ) → a ≤ k
    → places (suc k)
    ≡ place_at true (is_marker_symbol (line (suc k))) (is_marker_symbol (line k)) (places k)

-- the time is that of a line's k-th element, less than `off` us off; its frames begin at `edges`
abbrev pub IsTimeOf : (ℕ → ℕ) → ℕ → ℕ → ℕ → Type 0
IsTimeOf edges off k time =
    (element_at edges k < time + off) × (time < element_at edges k + off)

-- these hundred symbols stand on the line from its k-th on
abbrev pub StandAt : (ℕ → Symbol) → ℕ → List Symbol → Type 0
StandAt line k s = (i : ℕ) → i < 100 → slice_get s i ≡ Some (line (k + i))

-- ---- an idle line

-- the time is not before the last pulse's
abbrev pub IsAfter : List Pulse → ℕ → Type 0
IsAfter [] time = ⊤
IsAfter (p ∷ ps) time = p.rise ≤ time

-- a pulse came, less than a second ago
abbrev pub IsLive : List Pulse → ℕ → Type 0
IsLive [] now = ⊥
IsLive (p ∷ ps) now = (p.rise ≤ now) × (now < p.rise + 1000000)

-- no pulse came, or the last one a second ago or longer
abbrev pub IsIdle : List Pulse → ℕ → Type 0
IsIdle [] now = ⊤
IsIdle (p ∷ ps) now = p.rise + 1000000 ≤ now

-- the numbers are out of step, and the next marker begins a frame
abbrev pub IsOut : Sync → Type 0
IsOut s = (s.place ≡ 0) × (s.was_marker ≡ 1)

-- to a synchroniser these pulses came, the newest first, and what it was told last, a pulse or a
-- time at which the line may be idle, was of this time: the numbers are those of the pulses, or of
-- an idle line
abbrev pub IsSyncAt : Sync → List Pulse → ℕ → Type 0
IsSyncAt s pulses now = (IsSyncOf s pulses × IsLive pulses now) ⊎ (IsOut s × IsIdle pulses now)

-- what is told next is of a time less than half an hour behind the last one; a pulse may have risen
-- up to half a second before it, since it is told once it has ended
abbrev pub IsSoon : ℕ → ℕ → Type 0
IsSoon now time = (now ≤ time + 500000) × (time < now + 1800000000)
