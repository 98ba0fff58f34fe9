-- Known values of the standard's frame, so that a wrong definition does not check.
use Rattle.std.proofs.Common.{◌≡◌, ℕ, ◌+◌, true, cond, eqb, List, [], ◌∷◌, map, Ok, Err, refl}
use Rattle.std.specs.Prelude.{codes, count_by, sum_by}
use Rattle.std.specs.List.{list_all, list_any, range_with_len}
use Rattle.irig_frame.specs.declared.symbol.Symbol.{Symbol}
use Rattle.irig_frame.specs.declared.symbol.Symbol.TheVariants.{Zero, One, Marker, Bad}
use Rattle.irig_frame.specs.declared.layout.Field.TheVariants.{Second, Minute, Hour, Day, Year}
use Rattle.irig_frame.specs.declared.fault.FrameFault.TheVariants as fault
use Rattle.irig_frame.specs.Symbols.{letter_of, symbol_of, width_of}
use Rattle.irig_frame.specs.FieldTable.{places_of, control_places, straight_binary_places, is_marker_place, spare_places}
use Rattle.irig_frame.specs.Values.{value, weights}
use Rattle.irig_frame.specs.Decoder.{least, most}
use Rattle.irig_frame.specs.Faults.{field_at, values_of}

-- the symbols of a text, in which P is a marker
abbrev pub symbol_of_letter : ℕ → Symbol
symbol_of_letter letter = cond (eqb letter 80) Marker (cond (eqb letter 49) One (cond (eqb letter 48) Zero Bad))

abbrev pub symbols : List ℕ → List Symbol
symbols text = map symbol_of_letter text

-- either side of each bound
pub known_widths : map symbol_of (0 ∷ 499 ∷ 500 ∷ 3499 ∷ 3500 ∷ 6499 ∷ 6500 ∷ 9499 ∷ 9500 ∷ 4294967295 ∷ [])
    ≡ Bad ∷ Bad ∷ Zero ∷ Zero ∷ One ∷ One ∷ Marker ∷ Marker ∷ Bad ∷ Bad ∷ []
known_widths = refl

-- the nominal widths
pub nominal_widths : (map width_of (Zero ∷ One ∷ Marker ∷ []) ≡ 2000 ∷ 5000 ∷ 8000 ∷ [])
    × (map symbol_of (2000 ∷ 5000 ∷ 8000 ∷ []) ≡ Zero ∷ One ∷ Marker ∷ [])
nominal_widths = (refl, refl)

-- the letters of a frame's text
pub known_letters : map letter_of (Zero ∷ One ∷ Marker ∷ Bad ∷ []) ≡ codes "01P?"
known_letters = refl

-- the eleven markers
pub known_markers : map is_marker_place (0 ∷ 9 ∷ 19 ∷ 29 ∷ 39 ∷ 49 ∷ 59 ∷ 69 ∷ 79 ∷ 89 ∷ 99 ∷ []) ≡ map (λ _. true) (range_with_len 0 11)
known_markers = refl

-- what all ones of a field would sum to: 15 and 70, 15 and 70, 15 and 30, 15 and 150 and 300, 15
-- and 150
pub known_weights : map (λ f. weights (places_of f)) (Second ∷ Minute ∷ Hour ∷ Day ∷ Year ∷ []) ≡ 85 ∷ 85 ∷ 45 ∷ 465 ∷ 165 ∷ []
known_weights = refl

-- the least and the greatest value of each field: day 1 to 366, second 60 for an inserted one
pub known_bounds : (map least (Second ∷ Minute ∷ Hour ∷ Day ∷ Year ∷ []) ≡ 0 ∷ 0 ∷ 0 ∷ 1 ∷ 0 ∷ [])
    × (map most (Second ∷ Minute ∷ Hour ∷ Day ∷ Year ∷ []) ≡ 60 ∷ 59 ∷ 23 ∷ 366 ∷ 99 ∷ [])
known_bounds = (refl, refl)

-- the frame with ones at these elements
abbrev with_ones : List ℕ → List Symbol
with_ones elements = map (λ i. cond (is_marker_place i) Marker (cond (list_any (eqb i) elements) One Zero)) (range_with_len 0 100)

-- either side of each bound: seconds 60 and 61, minutes 59 and 60, hours 23 and 24, days 0, 1, 366
-- and 367; and year 99
pub known_ranges : (map (λ ones. field_at (with_ones ones) Second) ((7 ∷ 8 ∷ []) ∷ (1 ∷ 7 ∷ 8 ∷ []) ∷ []) ≡ Ok 60 ∷ Err (fault.Range Second) ∷ [])
    × (map (λ ones. field_at (with_ones ones) Minute) ((10 ∷ 13 ∷ 15 ∷ 17 ∷ []) ∷ (16 ∷ 17 ∷ []) ∷ []) ≡ Ok 59 ∷ Err (fault.Range Minute) ∷ [])
    × (map (λ ones. field_at (with_ones ones) Hour) ((20 ∷ 21 ∷ 26 ∷ []) ∷ (22 ∷ 26 ∷ []) ∷ []) ≡ Ok 23 ∷ Err (fault.Range Hour) ∷ [])
    × (map (λ ones. field_at (with_ones ones) Day) ([] ∷ (30 ∷ []) ∷ (31 ∷ 32 ∷ 36 ∷ 37 ∷ 40 ∷ 41 ∷ []) ∷ (30 ∷ 31 ∷ 32 ∷ 36 ∷ 37 ∷ 40 ∷ 41 ∷ []) ∷ [])
    ≡ Err (fault.Range Day) ∷ Ok 1 ∷ Ok 366 ∷ Err (fault.Range Day) ∷ [])
    × (field_at (with_ones (50 ∷ 53 ∷ 55 ∷ 58 ∷ [])) Year ≡ Ok 99)
unfolding field_at
known_ranges = (refl, refl, refl, refl, refl)

-- of two wrong fields the first is told, in the order second, minute, hour, day, year: second 61
-- and minute 60, minute 60 and hour 24, hour 24 and day 0, day 0 and year 10 with the digit 10, and
-- that year with day 1
pub known_order : map (λ ones. values_of (with_ones ones)) ((1 ∷ 7 ∷ 8 ∷ 16 ∷ 17 ∷ []) ∷ (16 ∷ 17 ∷ 22 ∷ 26 ∷ []) ∷ (22 ∷ 26 ∷ []) ∷ (51 ∷ 53 ∷ []) ∷ (30 ∷ 51 ∷ 53 ∷ []) ∷ [])
    ≡ Err (fault.Range Second) ∷ Err (fault.Range Minute) ∷ Err (fault.Range Hour) ∷ Err (fault.Range Day) ∷ Err (fault.Digit Year) ∷ []
unfolding values_of field_at
known_order = refl

-- 18 control bits and 17 straight binary seconds
pub known_numbers : (weights control_places ≡ 262143) × (weights straight_binary_places ≡ 131071)
known_numbers = (refl, refl)

-- how often an element stands in the field table, as a marker or among the spare places
abbrev times_of : ℕ → ℕ
times_of i =
    cond (is_marker_place i) 1 0 + count_by (λ j. eqb j i) spare_places
    + sum_by (λ f. count_by (λ p. eqb p.element i) (places_of f)) (Second ∷ Minute ∷ Hour ∷ Day ∷ Year ∷ [])
    + count_by (λ p. eqb p.element i) control_places + count_by (λ p. eqb p.element i) straight_binary_places

-- each of the hundred elements has one meaning
pub one_meaning : list_all (λ i. eqb (times_of i) 1) (range_with_len 0 100) ≡ true
one_meaning = refl

-- 2016-12-31T23:59:59, day 366, with a leap second pending and even parity; 86399 straight binary
-- seconds
abbrev pub leap_day : List Symbol
leap_day = symbols (codes "P10010101P100101010P110000100P011000110P110000000P011001000P100000000P000001000P111111101P000101010P")

pub leap_day_fields : map (λ f. value (places_of f) leap_day) (Second ∷ Minute ∷ Hour ∷ Day ∷ Year ∷ []) ≡ 59 ∷ 59 ∷ 23 ∷ 366 ∷ 16 ∷ []
leap_day_fields = refl

pub leap_day_bits : (value control_places leap_day ≡ 16385) × (value straight_binary_places leap_day ≡ 86399)
leap_day_bits = (refl, refl)
