-- Known values of lines, so that a wrong definition does not check.
use Rattle.std.proofs.Common.{◌≡◌, ℕ, zero, suc, ◌+◌, ◌*◌, ◌%◌, ◌||◌, Bool, true, false, eqb, List, [], ◌∷◌, map, length, Option, Some, None, refl, arith}
use Rattle.std.specs.Prelude.{if◌then◌else◌}
use Rattle.irig_frame.specs.declared.symbol.Symbol.TheVariants.{Zero, One, Marker, Bad}
use Rattle.record_pulses.specs.declared.edge.Edge.{Edge}
use Rattle.record_pulses.specs.declared.edge.Pulse.{Pulse}
use Rattle.record_pulses.specs.declared.looks.Heard.{Heard}
use Rattle.record_pulses.specs.declared.oddity.Oddity.TheVariants.{Silent, Single, Filtered, Uneven, NeverBegins, NeverWhole, Bare}
use Rattle.record_pulses.specs.declared.seen.Seen.{Seen}
use Rattle.record_pulses.specs.declared.spread.Spread.{Spread}
use Rattle.record_pulses.specs.declared.steady.Steady.{Steady}
use Rattle.record_pulses.specs.Glitches.{AreInOrder, IsRipe, IsSteady, ripe_at, to_come, without_glitches}
use Rattle.record_pulses.specs.Pulses.{AreInTurn, level_at, nearest_us, pulse_between, pulses_of}
use Rattle.record_pulses.specs.Spreads.{counted, least_of, most_of, total_of}
use Rattle.record_pulses.specs.Views.{begun_at, count_at, count_of, ends_bare, gap_of, gaps_in_step, gaps_of, is_on, place_now, seconds_of, whole_of, widths_of}
use Rattle.record_pulses.specs.Looks.{is_shown_high, polarity_of, told_of}
use Rattle.record_pulses.specs.Oddities.{oddity_of}

abbrev high : ℕ → Edge
high time = record { time_ns = time; is_high = true }

abbrev low : ℕ → Edge
low time = record { time_ns = time; is_high = false }

-- ---- glitches, where a level lasts for 50 ns

-- a line that is high for 20 ns is not, and then is; low for 20 ns it stays high
pub known_glitches : without_glitches 50 (low 0 ∷ high 1000 ∷ low 1020 ∷ high 2000 ∷ low 2100 ∷ high 2120 ∷ low 3000 ∷ []) ≡ low 0 ∷ high 2000 ∷ low 3000 ∷ []
known_glitches = refl

-- either side of the bound; 0 leaves nothing out
pub known_bound : (without_glitches 50 (low 0 ∷ high 1000 ∷ low 1049 ∷ []) ≡ low 0 ∷ []) × (without_glitches 50 (low 0 ∷ high 1000 ∷ low 1050 ∷ []) ≡ low 0 ∷ high 1000 ∷ low 1050 ∷ [])
    × (without_glitches 0 (low 0 ∷ high 1000 ∷ low 1000 ∷ []) ≡ low 0 ∷ high 1000 ∷ low 1000 ∷ [])
known_bound = (refl, refl, refl)

-- what a recording begins with is no glitch, but the change after it may be the first; the last change
-- stays, and a level that the line has is no change
pub known_ends : (without_glitches 50 (low 0 ∷ high 20 ∷ low 1000 ∷ []) ≡ high 20 ∷ low 1000 ∷ []) × (without_glitches 50 (low 0 ∷ high 20 ∷ []) ≡ high 20 ∷ [])
    × (without_glitches 50 (low 0 ∷ low 10 ∷ high 60 ∷ high 70 ∷ []) ≡ low 0 ∷ high 60 ∷ []) × (without_glitches 50 [] ≡ [])
known_ends = (refl, refl, refl, refl)

-- two glitches that touch
pub known_row : without_glitches 50 (low 0 ∷ high 1000 ∷ low 1020 ∷ high 1040 ∷ low 1060 ∷ high 2000 ∷ []) ≡ low 0 ∷ high 2000 ∷ []
known_row = refl

-- they are in order, and what comes out is steady by 50 ns and not by 1,001
pub known_steady : AreInOrder (low 0 ∷ high 1000 ∷ low 1020 ∷ []) × ¬ AreInOrder (low 0 ∷ high 1000 ∷ low 999 ∷ []) × IsSteady 50 (low 0 ∷ high 2000 ∷ low 3000 ∷ [])
    × ¬ IsSteady 1001 (low 0 ∷ high 2000 ∷ low 3000 ∷ []) × ¬ IsSteady 50 (low 0 ∷ low 2000 ∷ [])
known_steady = (
  ((omega arith, (omega arith, tt)), ((omega arith, tt), (tt, tt))),
  λ h. absurd (let it = h.1.0.0 in omega (arith, it)),
  (omega arith, refl, (omega arith, refl, tt)),
  λ h. absurd (let it = h.2.0 in omega (arith, it)),
  λ h. absurd (let it = h.1 in cc),
)

-- a change that waits
abbrev waits : Steady
waits = record { shortest_ns = 50; level = Some true; waiting = Some (high 1000); has_begun = true }

-- it is ripe 50 ns later; until then a change back takes it away
pub known_ripe : (ripe_at 1049 waits ≡ None) × (ripe_at 1050 waits ≡ Some (high 1000)) × IsRipe 1050 waits × ¬ IsRipe 1049 waits
    × (to_come waits (low 1049 ∷ []) ≡ []) × (to_come waits (low 1050 ∷ []) ≡ high 1000 ∷ low 1050 ∷ []) × (to_come waits [] ≡ high 1000 ∷ [])
known_ripe = (refl, refl, refl, λ h. absurd cc, refl, refl, refl)

-- ---- pulses

-- to the nearest microsecond, half of one up
pub known_nearest : map nearest_us (0 ∷ 499 ∷ 500 ∷ 1499 ∷ 1500 ∷ []) ≡ 0 ∷ 0 ∷ 1 ∷ 1 ∷ 2 ∷ []
known_nearest = refl

abbrev pulse : ℕ → ℕ → Pulse
pulse rise width = record { rise_us = rise; width_us = width }

-- no wider than 2^32 - 1
pub known_between : (pulse_between 10000400 12000900 ≡ pulse 10000 2001) × (pulse_between 0 5000000000000 ≡ pulse 0 4294967295)
known_between = (refl, refl)

-- the newest first: low at first, a pulse of 2 ms, one of 5 ms
abbrev some_edges : List Edge
some_edges = low 35000000 ∷ high 30000000 ∷ low 22000000 ∷ high 20000000 ∷ low 0 ∷ []

-- of low ones the first rose when the line was first low, which is not known
pub known_pulses : (pulses_of true some_edges ≡ pulse 30000 5000 ∷ pulse 20000 2000 ∷ []) × (pulses_of false some_edges ≡ pulse 22000 8000 ∷ [])
known_pulses = (refl, refl)

-- a line that is high at first
pub known_first : (pulses_of true (low 22000000 ∷ high 20000000 ∷ []) ≡ []) × (pulses_of false (high 30000000 ∷ low 22000000 ∷ high 20000000 ∷ []) ≡ pulse 22000 8000 ∷ [])
known_first = (refl, refl)

pub known_levels : map (λ time. level_at time some_edges) (19999999 ∷ 20000000 ∷ 21999999 ∷ 22000000 ∷ []) ≡ Some false ∷ Some true ∷ Some true ∷ Some false ∷ []
known_levels = refl

pub known_turn : AreInTurn some_edges × ¬ AreInTurn (low 10 ∷ high 11 ∷ [])
known_turn = ((omega arith, (omega arith, (omega arith, (omega arith, tt)))), λ h. absurd (omega (arith, h.0)))

-- ---- spreads

pub known_spread : (least_of (3 ∷ 1 ∷ 2 ∷ []) ≡ 1) × (most_of (3 ∷ 1 ∷ 2 ∷ []) ≡ 3) × (total_of (3 ∷ 1 ∷ 2 ∷ []) ≡ 6) × (least_of [] ≡ 0) × (most_of [] ≡ 0)
known_spread = (refl, refl, refl, refl, refl)

pub known_counted : map counted (0 ∷ 18446744073709551615 ∷ 18446744073709551616 ∷ []) ≡ 0 ∷ 18446744073709551615 ∷ 18446744073709551615 ∷ []
known_counted = refl

-- ---- a line of frames

-- a pulse each 10 ms: markers at 0, 9, 19 .. 99 of each hundred, and zeros else; the newest first
abbrev width_at : ℕ → ℕ
width_at k = if eqb (k % 10) 9 || eqb (k % 100) 0 then 8000 else 2000

abbrev line_of : ℕ → List Pulse
line_of zero = []
line_of (suc k) = pulse (10000 * k) (width_at k) ∷ line_of k

-- the first marker on a line begins a frame; after a hundred pulses it is whole, and the next pulse
-- begins another one
pub known_places : map (λ n. place_now (line_of n)) (0 ∷ 1 ∷ 2 ∷ 50 ∷ 100 ∷ 101 ∷ []) ≡ 0 ∷ 1 ∷ 2 ∷ 50 ∷ 100 ∷ 1 ∷ []
known_places = refl

pub known_counts : (map (λ n. count_at 100 (line_of n)) (99 ∷ 100 ∷ 101 ∷ []) ≡ 0 ∷ 1 ∷ 1 ∷ []) × (map (λ n. count_at 1 (line_of n)) (0 ∷ 1 ∷ 100 ∷ 101 ∷ []) ≡ 0 ∷ 1 ∷ 1 ∷ 2 ∷ [])
known_counts = (refl, refl)

pub known_seconds : (seconds_of (line_of 100) ≡ []) × (seconds_of (line_of 101) ≡ 1000000 ∷ []) × (begun_at (line_of 100) ≡ 0) × (begun_at (line_of 101) ≡ 1000000)
known_seconds = (refl, refl, refl, refl)

-- the whole frame has its hundred pulses in order, and stays
abbrev rises : Option (List Pulse) → List ℕ
rises None = []
rises (Some pulses) = map (λ p. p.rise_us) pulses

abbrev ends : List ℕ → List ℕ
ends [] = []
ends (x ∷ rest) = x ∷ length rest ∷ []

pub known_whole : (whole_of (line_of 99) ≡ None) × (ends (rises (whole_of (line_of 100))) ≡ 0 ∷ 99 ∷ []) × (ends (rises (whole_of (line_of 150))) ≡ 0 ∷ 99 ∷ [])
known_whole = (refl, refl, refl)

-- the same line with a one at an element of its first frame: only those of the year and of the control bits count
abbrev one_at : (element : ℕ) → ℕ → List Pulse
one_at element zero = []
one_at element (suc k) = pulse (10000 * k) (if eqb k element then 5000 else width_at k) ∷ one_at element k

pub known_bare : (map (λ n. count_of ends_bare (line_of n)) (99 ∷ 100 ∷ 101 ∷ []) ≡ 0 ∷ 1 ∷ 1 ∷ [])
    × (map (λ element. count_of ends_bare (one_at element 100)) (48 ∷ 50 ∷ 58 ∷ 60 ∷ 78 ∷ 80 ∷ []) ≡ 1 ∷ 0 ∷ 0 ∷ 0 ∷ 0 ∷ 1 ∷ [])
known_bare = (refl, refl)

-- a marker, a zero 10 ms later, a one 11 ms after that, which is late, and a pulse of no symbol
abbrev few : List Pulse
few = pulse 31000 9500 ∷ pulse 21000 5000 ∷ pulse 10000 2000 ∷ pulse 0 8000 ∷ []

pub known_few : (gaps_of few ≡ 10000 ∷ 11000 ∷ 10000 ∷ []) × (gaps_in_step few ≡ 10000 ∷ []) × (count_of (λ p before. is_on (gap_of p before)) few ≡ 2)
    × (count_at 0 few ≡ 2) × (widths_of Zero few ≡ 2000 ∷ []) × (widths_of One few ≡ 5000 ∷ []) × (widths_of Marker few ≡ 8000 ∷ []) × (widths_of Bad few ≡ 9500 ∷ [])
known_few = (refl, refl, refl, refl, refl, refl, refl, refl)

-- ---- polarity

-- the changes of that line, whose pulses are high or low
abbrev edges_of : Bool → ℕ → List Edge
edges_of true zero = low 0 ∷ []
edges_of false zero = high 0 ∷ []
edges_of true (suc k) = low (10000000 * k + 1000 * width_at k + 1000) ∷ high (10000000 * k + 1000) ∷ edges_of true k
edges_of false (suc k) = high (10000000 * k + 1000 * width_at k + 1000) ∷ low (10000000 * k + 1000) ∷ edges_of false k

-- it is known with the last pulse of the first frame, and not before
pub known_polarity : (polarity_of None (edges_of true 99) ≡ None) × (polarity_of None (edges_of true 100) ≡ Some true) × (polarity_of None (edges_of false 100) ≡ Some false)
known_polarity = (refl, refl, refl)

-- until then the polarity with more pulses on time is shown, of equals high; one that is given stays
pub known_shown : (is_shown_high None (edges_of true 9) ≡ true) × (is_shown_high None (edges_of false 9) ≡ false) × (is_shown_high None [] ≡ true) × (is_shown_high (Some false) (edges_of true 9) ≡ false)
known_shown = (refl, refl, refl, refl)

abbrev newest : List Edge → Option ℕ
newest [] = None
newest (d ∷ before) = place_if (told_of None d before)
  where
    place_if : Option Heard → Option ℕ
    place_if None = None
    place_if (Some h) = Some h.place

-- what is told with the last change
pub known_told : (newest (edges_of true 3) ≡ Some 3) × (newest (edges_of false 3) ≡ Some 3)
known_told = (refl, refl)

-- ---- what is odd

abbrev spread : ℕ → Spread
spread count = record { count = count; least_us = 0; most_us = 0; sum_us = 0 }

abbrev seen : (pulses frames bare on_time begun zeros ones markers : ℕ) → Seen
seen pulses frames bare on_time begun zeros ones markers = record {
  counts = record { pulses = pulses; frames = frames; out_of_step = 0; on_time = on_time; begun = begun; bare = bare };
  widths = record { zero = spread zeros; one = spread ones; marker = spread markers; bad = spread 0 };
  gaps = spread 0;
  gaps_in_step = spread 0;
  seconds = spread 0;
}

-- each of them, and either side of half the gaps
pub known_oddities : (oddity_of (seen 0 0 0 0 0 0 0 0) ≡ Some Silent) × (oddity_of (seen 1 0 0 0 0 1 0 0) ≡ Some Single) × (oddity_of (seen 9 0 0 8 1 0 5 4) ≡ Some Filtered)
    × (oddity_of (seen 9 0 0 4 1 5 2 2) ≡ Some Uneven) × (oddity_of (seen 9 0 0 5 0 5 2 2) ≡ Some NeverBegins) × (oddity_of (seen 9 0 0 5 1 5 2 2) ≡ Some NeverWhole)
    × (oddity_of (seen 100 1 1 99 1 80 9 11) ≡ Some Bare) × (oddity_of (seen 200 2 1 199 2 160 18 22) ≡ None) × (oddity_of (seen 100 1 0 99 1 80 9 11) ≡ None)
known_oddities = (refl, refl, refl, refl, refl, refl, refl, refl, refl)
