-- Functions that say whether the calls of a device are in order, and whether its lines are true of
-- late.
-- Source: this project's profile.
use Rattle.std.specs.Prelude.{ℕ, zero, suc, ◌+◌, Bool, true, false, not, ◌&&◌, nat_lt, nat_le, if◌then◌else◌, List, [], ◌∷◌, ◌++◌, count_by, Option, Some, None}
use Rattle.std.specs.List.{range_with_len}
use Rattle.irig_frame.specs.declared.symbol.Symbol.{Symbol}
use Rattle.irig_frame.specs.declared.symbol.Symbol.TheVariants.{Zero, One, Marker, Bad}
use Rattle.irig_frame.specs.Symbols.{symbol_of}
use Rattle.irig_sync.specs.Edges.{element_at}
use Rattle.irig_sync.specs.Lines.{Pulse}
use Rattle.irig_vote.specs.declared.redundancy.Redundancy.{Redundancy}
use Rattle.irig_vote.specs.Vote.{ports_in}
use Rattle.irig_lines.specs.Steps.{is_pulse}
use Rattle.irig_timekeeper.specs.Life.{Call, pulses_on, last_tick}
use Rattle.irig_timekeeper.specs.Life.Call.{Hear, Tick}

-- ---- the order of calls

-- the newest of these pulses, if there is one, rose by then
unfoldable pub is_after : List Pulse → ℕ → Bool
is_after [] time = true
is_after (p ∷ ps) time = nat_le p.rise time

-- so did that of each line
unfoldable pub have_risen : ℕ → List Call → Bool
have_risen now calls =
    is_after (pulses_on 0 calls) now
    && (is_after (pulses_on 1 calls) now
    && (is_after (pulses_on 2 calls) now
    && (is_after (pulses_on 3 calls) now && is_after (pulses_on 4 calls) now)))

-- these calls, the newest first, of a life that began at a time, are in order
unfoldable pub in_order : ℕ → Redundancy → List Call → Bool
in_order start redundancy [] = true
in_order start redundancy (Hear port rise width ∷ calls) =
    nat_lt port (ports_in redundancy)
    && ((if is_pulse width then
    is_after (pulses_on port calls) rise && nat_le (last_tick start calls) (rise + 500000)
    else true)
    && in_order start redundancy calls)
in_order start redundancy (Tick now ∷ calls) =
    nat_le (last_tick start calls) now
    && (nat_lt (now + 504000) (last_tick start calls + 1800000000)
    && (have_risen (now + 4000) calls && in_order start redundancy calls))

-- ---- a line that is true of late

-- the two symbols are the same one
unfoldable pub is_same : Symbol → Symbol → Bool
is_same Zero Zero = true
is_same One One = true
is_same Marker Marker = true
is_same Bad Bad = true
is_same _ _ = false

-- it is a pulse of the line's k-th element, less than `within` us off
unfoldable pub is_pulse_of : (within : ℕ) → (ℕ → Symbol) → (ℕ → ℕ) → ℕ → Pulse → Bool
is_pulse_of within line edges k p =
    nat_lt (element_at edges k) (p.rise + within)
    && (nat_lt p.rise (element_at edges k + within) && is_same (symbol_of p.width) (line k))

-- the last element before the k-th that has this pulse
unfoldable pub last_before : (within : ℕ) → (ℕ → Symbol) → (ℕ → ℕ) → ℕ → Pulse → Option ℕ
last_before within line edges zero p = None
last_before within line edges (suc k) p =
    if is_pulse_of within line edges k p then Some k else last_before within line edges k p

-- of these pulses, the newest first, those that rose within 1.2 s before now, or later, are those of
-- some elements before that one, if there is one, in order
unfoldable pub are_lately : (within : ℕ) → (ℕ → Symbol) → (ℕ → ℕ) → ℕ → Option ℕ → List Pulse → Bool
are_lately within line edges now None ps = false
are_lately within line edges now (Some k) [] = true
are_lately within line edges now (Some k) (p ∷ ps) =
    are_lately within line edges now
    (if nat_lt (p.rise + 1200000) now then Some k else last_before within line edges k p)
    ps

-- ---- lines that are true

-- by a test of a line's pulses all but at most f of five lines are true at this time
unfoldable pub are_true_lately : (ℕ → List Pulse → Bool) → (f now : ℕ) → List Call → Bool
are_true_lately is_true f now calls =
    nat_le (count_by (λ line. not (is_true now (pulses_on line calls))) (range_with_len 0 5)) f

-- so at each tick
unfoldable pub are_true_at_ticks : (ℕ → List Pulse → Bool) → (f : ℕ) → List Call → Bool
are_true_at_ticks is_true f [] = true
are_true_at_ticks is_true f (Hear port rise width ∷ calls) = are_true_at_ticks is_true f calls
are_true_at_ticks is_true f (Tick now ∷ calls) =
    are_true_lately is_true f now calls && are_true_at_ticks is_true f calls

-- so at each tick of these calls, which came behind those
unfoldable pub are_true_over : (ℕ → List Pulse → Bool) → (f : ℕ) → (calls before : List Call) → Bool
are_true_over is_true f [] before = true
are_true_over is_true f (Hear port rise width ∷ calls) before = are_true_over is_true f calls before
are_true_over is_true f (Tick now ∷ calls) before =
    are_true_lately is_true f now (calls ++ before) && are_true_over is_true f calls before
