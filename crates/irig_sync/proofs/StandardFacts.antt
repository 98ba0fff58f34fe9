-- Known values of the synchroniser, so that a wrong definition does not check.
use Rattle.irig_sync.proofs.EdgeLaws.{even_element}
use Rattle.std.proofs.Common.{◌≡◌, ◌↔◌, ℕ, ◌+◌, ◌-◌, ◌*◌, ◌%◌, ◌^◌, ◌<◌, not, Bool, true, false, eqb, List, [], ◌∷◌, map, get_or, Option, Some, None, suc, ◌∙◌, ap, length, refl, arith, inl, inr}
use Rattle.std.specs.Prelude.{codes, slice_get}
use Rattle.std.proofs.lemmas.Bool.{agree_below_at, eqb-true}
use Rattle.std.proofs.lemmas.List.FromFn.{get_or-map-range_with_len, length-map-range_with_len}
use Rattle.std.proofs.lemmas.Option.{slice_get-get_or}
use Rattle.std.specs.List.{range_with_len}
use Rattle.irig_frame.proofs.StandardFacts.{symbols}
use Rattle.irig_frame.specs.declared.symbol.Symbol.{Symbol}
use Rattle.irig_frame.specs.declared.symbol.Symbol.TheVariants.{Zero, One, Marker, Bad}
use Rattle.irig_frame.specs.FieldTable.{is_marker_place}
use Rattle.irig_frame.specs.Decoder.{IsRight}
use Rattle.irig_frame.specs.declared.fault.FrameFault.TheVariants as fault
use Rattle.irig_frame.specs.Faults.{first_wrong}
use Rattle.irig_sync.specs.declared.sync.Sync.{Sync}
use Rattle.irig_sync.specs.Edges.{IsSteady, element_at, IsClock}
use Rattle.irig_sync.specs.Sync.{is_marker_symbol, is_marker, is_on_time, clock_gap, place_at, place_behind, place_of, is_idle, idle_of}
use Rattle.irig_sync.specs.Lines.{Pulse, pulse_at, place_after, AreOnTime, symbols_of_last, IsTrueLine, ArePlacesFrom, StandAt, IsTimeOf, IsInTurn, IsLive, IsIdle, IsSyncAt, IsSoon}

-- either side of each bound: 9,000 to 10,999 us are on time, a lost pulse's 20 ms are not
pub known_gaps : map is_on_time (0 ∷ 1000 ∷ 8999 ∷ 9000 ∷ 10000 ∷ 10999 ∷ 11000 ∷ 20000 ∷ [])
    ≡ false ∷ false ∷ false ∷ true ∷ true ∷ true ∷ false ∷ false ∷ []
known_gaps = refl

-- over the clock's wrap, too; and what lies behind is a turn less
pub known_clock : (clock_gap 5 10005 ≡ 10000) × (clock_gap 4294962296 5000 ≡ 10000) × (clock_gap 4294967295 0 ≡ 1) × (clock_gap 1 0 ≡ 4294967295)
known_clock = (refl, refl, refl, refl)

-- markers alone
pub known_markers : map is_marker (2000 ∷ 5000 ∷ 8000 ∷ 6499 ∷ 6500 ∷ 9499 ∷ 9500 ∷ []) ≡ false ∷ false ∷ true ∷ false ∷ true ∷ true ∷ false ∷ []
known_markers = refl

-- the next place, round behind 100; what may lie in the numbers beside is out of step
pub known_places : map place_behind (0 ∷ 1 ∷ 99 ∷ 100 ∷ 101 ∷ 255 ∷ []) ≡ 0 ∷ 2 ∷ 100 ∷ 1 ∷ 0 ∷ 0 ∷ []
known_places = refl

-- behind place 50: a marker alone and a bit are counted; a marker behind a marker begins a frame;
-- not on time a bit is out of step, and a marker begins a frame
pub known_steps : (map (λ marker. place_at true marker false 50) (false ∷ true ∷ []) ≡ 51 ∷ 51 ∷ [])
    × (map (λ marker. place_at true marker true 50) (false ∷ true ∷ []) ≡ 51 ∷ 1 ∷ [])
    × (map (λ marker. place_at false marker false 50) (false ∷ true ∷ []) ≡ 0 ∷ 1 ∷ [])
    × (map (λ marker. place_at true marker false 0) (false ∷ true ∷ []) ≡ 0 ∷ 0 ∷ [])
known_steps = (refl, refl, refl, refl)

-- any byte but 0 is a marker
pub known_flags : map (λ was. place_of (record { rise_us = 0; place = 50; was_marker = was }) 10000 8000) (0 ∷ 1 ∷ 255 ∷ []) ≡ 51 ∷ 1 ∷ 1 ∷ []
known_flags = refl

-- a line is idle after a second; an edge a little ahead is no idle line's
pub known_idle : map is_idle (0 ∷ 999999 ∷ 1000000 ∷ 2147483647 ∷ 2147483648 ∷ 4294967295 ∷ []) ≡ false ∷ false ∷ true ∷ true ∷ false ∷ false ∷ []
known_idle = refl

-- ---- some pulses

-- a pulse each 10 ms, the oldest first, of these widths; what follows has them the newest first
-- a marker, a second one 10 ms later, and a bit: the second marker begins a frame
abbrev begun : List Pulse
begun = pulse_at 20000 2000 ∷ pulse_at 10000 8000 ∷ pulse_at 0 8000 ∷ []

pub known_begun : place_after begun ≡ 2
known_begun = refl

-- the next bit is counted; 20 ms later it is not, and a glitch 1 ms behind is not, nor what follows
-- it 10 ms later
pub known_after : (place_after (pulse_at 30000 2000 ∷ begun) ≡ 3) × (place_after (pulse_at 40000 2000 ∷ begun) ≡ 0)
    × (place_after (pulse_at 21000 500 ∷ begun) ≡ 0) × (place_after (pulse_at 31000 2000 ∷ (pulse_at 21000 500 ∷ begun)) ≡ 0)
known_after = (refl, refl, refl, refl)

-- the symbols of the last two, the oldest first; of more than there are, those that there are
pub known_symbols : (symbols_of_last 2 begun ≡ Marker ∷ Zero ∷ []) × (symbols_of_last 5 begun ≡ Marker ∷ Marker ∷ Zero ∷ []) × (symbols_of_last 0 begun ≡ [])
known_symbols = (refl, refl, refl)

-- the last two came on time, and three did; of four there are not so many, and of two one came 20 ms
-- behind
pub known_on_time : AreOnTime 2 begun × AreOnTime 3 begun × ¬ AreOnTime 4 begun × ¬ AreOnTime 2 (pulse_at 40000 2000 ∷ begun)
known_on_time = ((refl, tt), (refl, (refl, tt)), λ h. h.1.1, λ h. absurd (let it = h.0 in cc))

-- ---- a counter that drifts

-- it runs 100 us a second fast
abbrev pub fast : ℕ → ℕ
fast n = 1000 + 1000100 * n

-- and no less
pub known_steady : IsSteady 100 fast × ¬ IsSteady 99 fast × ¬ IsSteady 99 (λ n. 2000000 - 999900 * n)
known_steady = (record { least = λ n. omega arith; most = λ n. omega arith }, λ h. absurd (let it = h.most 0 in omega (arith, it)), λ h. absurd (let it = h.least 0 in omega (arith, it)))

-- so its elements lie 10.001 ms apart
pub known_elements : map (element_at fast) (0 ∷ 1 ∷ 99 ∷ 100 ∷ 101 ∷ []) ≡ 1000 ∷ 11001 ∷ 991099 ∷ 1001100 ∷ 1011101 ∷ []
known_elements = refl

-- pulses less than 500 us off are told apart by it; 501 us are too many
pub known_told_apart : IsClock 100 500 fast × ¬ IsClock 100 501 fast × ¬ IsClock 99 500 fast
known_told_apart = (record { steady = known_steady.0; near = omega arith }, λ h. absurd (omega (arith, h.near)), λ h. absurd (let it = h.steady.most 0 in omega (arith, it)))

-- the times of the third element of its second frame
pub known_times : IsTimeOf fast 450 103 1031103 × IsTimeOf fast 450 103 1030654 × IsTimeOf fast 450 103 1031552 × ¬ IsTimeOf fast 450 103 1030653 × ¬ IsTimeOf fast 450 103 1031553
known_times = ((omega arith, omega arith), (omega arith, omega arith), (omega arith, omega arith), λ h. absurd (omega (arith, h.0)), λ h. absurd (omega (arith, h.1)))

-- a counter that does not drift is one of these, with pulses less than 500 us off the grid of 10 ms
-- that begins with the line
pub one_clock : (start : ℕ) → IsClock 0 500 (λ n. start + 1000000 * n)
one_clock start = record { steady = record { least = λ n. omega arith; most = λ n. omega arith }; near = omega arith }

pub one_start : (start k time : ℕ) → ((start + 10000 * k < time + 500) × (time < start + 10000 * k + 500)) ↔ IsTimeOf (λ n. start + 1000000 * n) 500 k time
one_start start k time =
    let at = even_element 1000000 (λ n. start + 1000000 * n) (λ n. omega arith) k in (λ h. (omega (arith, at, h.0), omega (arith, at, h.1)), λ h. (omega (arith, at, h.0), omega (arith, at, h.1)))

-- ---- an idle line

-- a turn of the clock, 71 minutes, and 10 ms after a pulse
abbrev turn_later : ℕ
turn_later = 20000 + 2 ^ 32 + 10000

-- the numbers behind the three pulses
abbrev numbers : Sync
numbers = record { rise_us = 20000; place = 2; was_marker = 0 }

-- a bit that comes then has no place, but by the clock alone it would be counted; once a second of
-- silence was told it is not
pub known_turn : (place_after (pulse_at turn_later 2000 ∷ begun) ≡ 0) × (place_of numbers (turn_later % 2 ^ 32) 2000 ≡ 3)
    × (place_of (idle_of numbers 1020000) (turn_later % 2 ^ 32) 2000 ≡ 0) × (place_of (idle_of numbers 1020000) (turn_later % 2 ^ 32) 8000 ≡ 1)
known_turn = (refl, refl, refl, refl)

-- before that second is over nothing changes
pub known_live : (idle_of numbers 1019999 ≡ numbers) × (idle_of numbers 19000 ≡ numbers)
known_live = (refl, refl)

pub known_silence : IsLive begun 1019999 × ¬ IsLive begun 1020000 × IsIdle begun 1020000 × ¬ IsIdle begun 1019999 × ¬ IsLive [] 0 × IsIdle [] 0
known_silence = ((omega arith, omega arith), λ h. absurd (omega (arith, h.1)), omega arith, λ h. absurd (omega (arith, h)), λ h. h, tt)

-- at most half a second before what was told last, and less than half an hour behind it
pub known_soon : IsSoon 600000 100000 × ¬ IsSoon 600000 99999 × IsSoon 0 1799999999 × ¬ IsSoon 0 1800000000
known_soon = ((omega arith, omega arith), λ h. absurd (omega (arith, h.0)), (omega arith, omega arith), λ h. absurd (omega (arith, h.1)))

pub known_in_turn : IsInTurn begun 20000 × ¬ IsInTurn begun 19999 × IsInTurn begun 4294987295 × ¬ IsInTurn begun 4294987296
known_in_turn = ((omega arith, omega arith), λ h. absurd (omega (arith, h.0)), (omega arith, omega arith), λ h. absurd (omega (arith, h.1)))

-- the numbers stand for the three pulses until a second after the last one; and not later, when a
-- bit may come that they would count
pub known_at : IsSyncAt numbers begun 1019999 × ¬ IsSyncAt numbers begun 1020000 × IsSyncAt (idle_of numbers 1020000) begun 1020000
known_at = (
  inl (record { place = refl; last = (refl, refl) }, (omega arith, omega arith)),
  λ h. elim h [ inl live ↦ absurd (omega (arith, live.1.1)) | inr out ↦ absurd (omega (arith, out.0.0)) ],
  inr ((refl, refl), omega arith),
)

-- ---- a line of frames

-- 2016-12-31T23:59:59 once a second
abbrev pub element : ℕ → Symbol
element i = get_or (symbols (codes "P10010101P100101010P110000100P011000110P110000000P011001000P100000000P000001000P111111101P000101010P")) i Bad

abbrev pub line : ℕ → Symbol
line k = element (k % 100)

-- the line's symbols from its k-th on
abbrev hundred_from : ℕ → List Symbol
hundred_from k = map line (range_with_len k 100)

-- a hundred elements from element 10 on are no frame, and neither are those from 1 on or from 99
-- on; a hundred from element 0 on are one, and so are the next hundred
pub known_rotations : map (λ k. first_wrong 0 (hundred_from k)) (0 ∷ 100 ∷ 1 ∷ 10 ∷ 99 ∷ [])
    ≡ None ∷ None ∷ Some (fault.Marker 0) ∷ Some (fault.Marker 0) ∷ Some (fault.Marker 1) ∷ []
known_rotations = refl

of_not : (b : Bool) → not b ≡ true → b ≡ false
of_not true e = absurd cc
of_not false e = refl

abbrev is_right : ℕ → Symbol → Bool
is_right i Bad = false
is_right i Marker = is_marker_place i
is_right i _ = not (is_marker_place i)

right_if : (i : ℕ) (x : Symbol) → is_right i x ≡ true → IsRight i (Some x)
right_if i Bad e = absurd cc
right_if i Marker e = e
right_if i Zero e = of_not (is_marker_place i) e
right_if i One e = of_not (is_marker_place i) e

-- it is a line of true frames; and one of markers alone is none
pub known_line : IsTrueLine line × ¬ IsTrueLine (λ _. Marker)
known_line =
    (λ k. right_if (k % 100) (line k) (agree_below_at (λ i. is_right i (element i)) (λ _. true) 100 (k % 100) refl (omega arith)), λ h. absurd (let it : is_marker_place 1 ≡ true = h 1 in cc))

there : (i : ℕ) → i < 100 → slice_get (hundred_from 10) i ≡ Some (line (10 + i))
there i h =
    let long : length (hundred_from 10) ≡ 100 = length-map-range_with_len line 10 100 in
    slice_get-get_or (hundred_from 10) i Bad (omega (arith, long, h)) ∙ ap Some (get_or-map-range_with_len line 10 100 i (10 + i) Bad h refl)

-- the hundred symbols from element 10 on stand there, and not at element 0
pub known_stand : StandAt line 10 (hundred_from 10) × ¬ StandAt line 0 (hundred_from 10)
known_stand = (there, λ h. absurd (let it : ◌≡◌ {A = Option Symbol} (Some One) (Some Marker) = h 0 (omega arith) in cc))

next_place : (r : ℕ) → r < 100 → (r + 1) % 100 + 1 ≡ place_at true (is_marker_symbol (element ((r + 1) % 100))) (is_marker_symbol (element r)) (r + 1)
next_place r h = eqb-true _ _ (agree_below_at (λ r. eqb ((r + 1) % 100 + 1) (place_at true (is_marker_symbol (element ((r + 1) % 100))) (is_marker_symbol (element r)) (r + 1))) (λ _. true) 100 r refl h)

-- the places of a line are one more than the elements; they are not out of step behind a frame's end
pub known_places_from : ArePlacesFrom line 0 (λ k. k % 100 + 1) × ¬ ArePlacesFrom line 99 (λ k. 0)
known_places_from = (
  λ k h. let next : suc k % 100 ≡ (k % 100 + 1) % 100 = omega arith in rw next (next_place (k % 100) (omega arith)),
  λ h. absurd (let it : 0 ≡ 1 = h 99 (omega arith) in omega (arith, it)),
)
