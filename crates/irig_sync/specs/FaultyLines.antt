-- A line of frames of which pulses are lost, or one is at fault.
-- Source: this project's profile.
use Rattle.std.specs.Prelude.{◌≡◌, ℕ, zero, suc, ◌+◌, ◌<◌, ◌≤◌, ◌⊎◌, true, List, [], ◌∷◌, ◌++◌, length, take, drop, ⊤}
use Rattle.irig_frame.specs.declared.symbol.Symbol.{Symbol}
use Rattle.irig_frame.specs.Symbols.{symbol_of}
use Rattle.irig_sync.specs.Edges.{element_at, element_drift}
use Rattle.irig_sync.specs.Sync.{is_marker}
use Rattle.irig_sync.specs.Lines.{Pulse, IsTimeOf, place_after}

-- a pulse of the line's k-th element, at its time
abbrev pub IsPulseOf : (ℕ → Symbol) → (ℕ → ℕ) → ℕ → ℕ → Pulse → Type 0
IsPulseOf line edges off k p = IsTimeOf edges off k p.rise × (symbol_of p.width ≡ line k)

-- the pulses, the newest first, are those of elements in a row, of which the newest is the one
-- before the k-th
abbrev pub ArePulsesBefore : (ℕ → Symbol) → (ℕ → ℕ) → ℕ → ℕ → List Pulse → Type 0
ArePulsesBefore line edges off k [] = ⊤
ArePulsesBefore line edges off (suc k) (p ∷ ps) =
    IsPulseOf line edges off k p × ArePulsesBefore line edges off k ps
ArePulsesBefore line edges off zero (p ∷ ps) = ⊥

-- the pulses, the newest first, are those of some elements before the k-th, in order: any others
-- were lost
abbrev pub ArePulsesLeft : (ℕ → Symbol) → (ℕ → ℕ) → ℕ → ℕ → List Pulse → Type 0
ArePulsesLeft line edges off k [] = ⊤
ArePulsesLeft line edges off k (p ∷ ps) =
    (j : ℕ) × (j < k) × IsPulseOf line edges off j p × ArePulsesLeft line edges off j ps

-- the pulses, the newest first, are those of a line, of which one is at fault. In place of that
-- element's pulse came none (it was lost), or another one, of any time and width (it was late, or
-- early, or damaged), or two (it was doubled, or cut in two, or one was added beside it)
pub record HasOneFault (line : ℕ → Symbol) (edges : ℕ → ℕ) (off : ℕ) (pulses : List Pulse)
    : Type 0 where
  pub element : ℕ
  pub after : List Pulse
  pub fault : List Pulse
  pub before : List Pulse
  pub parts : pulses ≡ after ++ (fault ++ before)
  pub few : length fault ≤ 2
  pub later : ArePulsesBefore line edges off (length after + suc element) after
  pub earlier : ArePulsesBefore line edges off element before

-- of each hundred pulses in a row one at most is at fault
abbrev pub HasOneFaultInAHundred : (ℕ → Symbol) → (ℕ → ℕ) → ℕ → List Pulse → Type 0
HasOneFaultInAHundred line edges off pulses =
    (n : ℕ) → HasOneFault line edges off (take 100 (drop n pulses))

-- what came in place of a frame's last pulse, the k-th, leaves the next frame its first element:
-- the pulse was lost; or it is a marker, at any time, or comes at its time and in step, of any
-- width; or of two the later one is a marker, or rises 1 ms, `off` and an element's drift or more
-- behind the k-th element's time, as each does that begins when a marker has ended
abbrev pub LeavesTheNext : (ℕ → ℕ) → ℕ → ℕ → ℕ → List Pulse → List Pulse → Type 0
LeavesTheNext edges off d k [] before = ⊤
LeavesTheNext edges off d k (x ∷ []) before =
    (is_marker x.width ≡ true) ⊎ (IsTimeOf edges off k x.rise × (place_after before ≡ 99))
LeavesTheNext edges off d k (y ∷ (x ∷ more)) before =
    (is_marker y.width ≡ true) ⊎ (element_at edges k + 1000 + off + element_drift d ≤ y.rise)
