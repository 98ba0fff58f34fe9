-- What it is for a line to be true of late: each frame begins at its own edge, so that the
-- device's counter may drift.
-- Source: IRIG Standard 200-16, format B: an element each 10 ms; this project's profile.
use Rattle.std.specs.Prelude.{◌≡◌, ℕ, zero, suc, ◌+◌, ◌-◌, ◌*◌, ◌/◌, ◌%◌, ◌^◌, ◌<◌, ◌≤◌, ◌⊎◌, nat_lt, if◌then◌else◌, List, [], ◌∷◌, Option, Some, None, take, drop, slice_get, get_or, ⊤}
use Rattle.irig_frame.specs.declared.symbol.Symbol.{Symbol}
use Rattle.irig_frame.specs.declared.symbol.Symbol.TheVariants.{One, Marker, Bad}
use Rattle.irig_frame.specs.FieldTable.{is_marker_place}
use Rattle.irig_sync.specs.Edges.{element_at}
use Rattle.irig_sync.specs.FaultyLines.{IsPulseOf, HasOneFault}
use Rattle.irig_sync.specs.Lines.{Pulse, place_after, AreOnTime, IsTrueLine, StandAt, symbols_of_last}
use Rattle.irig_time.specs.declared.rules.Rules.{Rules}
use Rattle.irig_time.specs.declared.claim.Claim.{Claim}
use Rattle.irig_time.specs.Carries.{Carries}
use Rattle.irig_port.specs.Limits.{quality_in}
use Rattle.irig_time.specs.Timelines.{TimelineValue, IsTrueClaim}
use Rattle.irig_lines.specs.declared.lines.KeptClaim.{KeptClaim}
use Rattle.irig_lines.specs.declared.setup.ClockRules.{ClockRules}
use Rattle.irig_lines.specs.Exactness.{uneven_us}
use Rattle.irig_lines.specs.Widths.{worst_of, half_us, reach_us}

-- of these pulses, the newest first, those that rose within 1.2 s before now, or later, are those of
-- some elements before the k-th, each less than `within` us off, in order: any others were lost
abbrev pub ArePulsesLately : (within : ℕ) → (ℕ → Symbol) → (ℕ → ℕ) → ℕ → ℕ → List Pulse → Type 0
ArePulsesLately within line edges now k [] = ⊤
ArePulsesLately within line edges now k (p ∷ ps) =
    ((p.rise + 1200000 < now) × ArePulsesLately within line edges now k ps)
    ⊎ ((j : ℕ) × (j < k) × IsPulseOf line edges within j p
    × ArePulsesLately within line edges now j ps)

-- a line of frames whose f-th, if it carries a claim, carries the true one of T(f)
pub record IsLineOf (rules : Rules) (t : TimelineValue) (line : ℕ → Symbol) : Type 0 where
  pub right : IsTrueLine line
  pub truth : (f : ℕ) (s : List Symbol) (c : Claim) → StandAt line (100 * f) s
      → Carries rules s c → IsTrueClaim t (f + 1) c

-- the line was true for the last 1.2 s, each of its pulses less than `within` us off, whatever it was
-- before
pub record IsTrueLately (within : ℕ) (rules : Rules) (t : TimelineValue) (edges : ℕ → ℕ) (now : ℕ)
    (pulses : List Pulse) : Type 0 where
  pub line : ℕ → Symbol
  pub next : ℕ
  pub is_line : IsLineOf rules t line
  pub are : ArePulsesLately within line edges now next pulses

-- ---- a frame that was heard whole

-- when the pulse rose that came so many before the newest of these
abbrev pub rise_before : ℕ → List Pulse → ℕ
rise_before n [] = 0
rise_before zero (p ∷ ps) = p.rise
rise_before (suc n) (p ∷ ps) = rise_before n ps

-- in a frame this is when the pulse rose that began it, by a clock of 32 bits
abbrev pub KnowsBegin : (begin : ℕ) → List Pulse → Type 0
KnowsBegin begin pulses =
    (n : ℕ) → place_after pulses ≡ suc n → begin ≡ rise_before n pulses % 2 ^ 32

-- of a hundred pulses, the newest first, the last rose 990 ms behind the first, but for what so exact
-- lines and a counter that runs d us a second wrong may be off
abbrev pub AreEven : (within d : ℕ) → List Pulse → Type 0
AreEven within d pulses =
    (rise_before 99 pulses + 990000 ≤ rise_before 0 pulses + uneven_us within d)
    × (rise_before 0 pulses ≤ rise_before 99 pulses + 990000 + uneven_us within d)

-- the newest of these pulses rose an element before that time
abbrev pub IsLastBefore : ℕ → List Pulse → Type 0
IsLastBefore end [] = ⊥
IsLastBefore end (p ∷ ps) = end ≡ p.rise + 10000

-- a hundred pulses in a row, each but the first on time behind the one before, and so even, carry the
-- claim; the last of them rose an element before that time, and so many pulses came behind it. The edge
-- lies at most so far from there by the quality that they say, which has a vote
pub record IsFrameOf (c : ClockRules) (rules : Rules) (claim : Claim) (half end : ℕ)
    (pulses : List Pulse) : Type 0 where
  pub late : ℕ
  pub on_time : AreOnTime 100 (drop late pulses)
  pub carries : Carries rules (symbols_of_last 100 (drop late pulses)) claim
  pub last : IsLastBefore end (drop late pulses)
  pub even : AreEven c.within.us c.drift_us (drop late pulses)
  pub says : half ≡ half_us c (quality_in (symbols_of_last 100 (drop late pulses)))
  pub votes : quality_in (symbols_of_last 100 (drop late pulses)) ≤ worst_of c

-- a line keeps a frame of these pulses, if it keeps one; it ends at such a time, which the line has
-- by a clock of 32 bits
abbrev pub IfKept : (ℕ → Type 0) → ClockRules → Rules → Option KeptClaim → List Pulse → Type 0
IfKept EndsSo c rules None pulses = ⊤
IfKept EndsSo c rules (Some kept) pulses =
    (end : ℕ) × (kept.end_us ≡ end % 2 ^ 32)
    × IsFrameOf c rules kept.claim kept.half_us end pulses × EndsSo end

-- the end lies less than a turn of that clock back, and at most 14 ms ahead
abbrev pub IsInTurnOf : ℕ → ℕ → Type 0
IsInTurnOf now end = (end ≤ now + 14000) × (now + 14000 < end + 2 ^ 32)

-- of an end nothing is asked
abbrev pub IsAnyEnd : ℕ → Type 0
IsAnyEnd end = ⊤

-- the end has come, so long ago that an edge has too on which lines agree by this frame, and at most
-- 100 ms ago
abbrev pub HasJustCome : ClockRules → (now end : ℕ) → Type 0
HasJustCome c now end = (end + reach_us c ≤ now + (c.within.us - 1)) × (now ≤ end + 100000)

-- ---- a line with faults

-- but for one of them, the q-th, these hundred symbols stand on the line from its k-th on
abbrev pub StandButForOne : (ℕ → Symbol) → ℕ → ℕ → List Symbol → Type 0
StandButForOne line k q s =
    (i : ℕ) → i < 100 → ¬ (i ≡ q) → slice_get s i ≡ Some (line (k + i))

-- a line of frames whose f-th carries the true claim of T(f), if it carries one, whichever one of
-- its symbols is another. So is what a clock sends: with another symbol its frames are at fault, or
-- claim the same
pub record IsCheckedLineOf (rules : Rules) (t : TimelineValue) (line : ℕ → Symbol) : Type 0 where
  pub right : IsTrueLine line
  pub truth : (f q : ℕ) (s : List Symbol) (c : Claim) → StandButForOne line (100 * f) q s
      → Carries rules s c → IsTrueClaim t (f + 1) c

-- a line that sends n frames, and then nothing: its other pulses are all lost, and no hundred of
-- their symbols, ones, are a frame, nor with another one among them
abbrev pub line_of : (ℕ → List Symbol) → ℕ → ℕ → Symbol
line_of frames n k =
    if nat_lt (k / 100) n then get_or (frames (k / 100)) (k % 100) Bad
    else (if is_marker_place (k % 100) then Marker else One)

-- the newest of these pulses, if there is one, rose before that time
abbrev pub RoseBefore : ℕ → List Pulse → Type 0
RoseBefore time [] = ⊤
RoseBefore time (p ∷ ps) = p.rise < time

-- of these pulses, the newest first, at most one is at fault, and what came in its place rose
-- before the next element's time was past: what rises later stands behind the next pulse, or that
-- one is lost too
pub record HasOneFaultInPlace (within : ℕ) (line : ℕ → Symbol) (edges : ℕ → ℕ) (pulses : List Pulse)
    : Type 0 where
  pub one : HasOneFault line edges within pulses
  pub in_place : RoseBefore (element_at edges (one.element + 1) + within) one.fault

-- these pulses rose within 1.2 s before now, or later
abbrev pub RoseLately : ℕ → List Pulse → Type 0
RoseLately now [] = ⊤
RoseLately now (p ∷ ps) = (now ≤ p.rise + 1200000) × RoseLately now ps

-- the line was true for the last 1.2 s, but for one fault in each hundred pulses in a row, whatever
-- it was before
pub record IsTrueButForFaults (within : ℕ) (rules : Rules) (t : TimelineValue) (edges : ℕ → ℕ) (now : ℕ)
    (pulses : List Pulse) : Type 0 where
  pub line : ℕ → Symbol
  pub is_line : IsCheckedLineOf rules t line
  pub few : (n : ℕ) → RoseLately now (take 100 (drop n pulses))
      → HasOneFaultInPlace within line edges (take 100 (drop n pulses))

-- the line was true for the last 1.2 s but for any lost pulses, or but for faults
abbrev pub IsTrueOrFaulty : (within : ℕ) → Rules → TimelineValue → (ℕ → ℕ) → ℕ → List Pulse → Type 0
IsTrueOrFaulty within rules t edges now pulses =
    IsTrueLately within rules t edges now pulses ⊎ IsTrueButForFaults within rules t edges now pulses
