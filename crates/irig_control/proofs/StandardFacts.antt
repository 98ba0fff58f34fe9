-- Known values of the control bits and the parity, so that a wrong definition does not check.
use Rattle.std.proofs.Common.{◌≡◌, ◌^◌, true, false, List, [], ◌∷◌, map, slice_set, refl, pos, negsuc, neg_ℤ}
use Rattle.std.specs.Prelude.{codes}
use Rattle.std.specs.List.{flat_map, range_with_len}
use Rattle.irig_frame.proofs.StandardFacts.{symbols}
use Rattle.irig_frame.specs.declared.symbol.Symbol.{Symbol}
use Rattle.irig_frame.specs.declared.symbol.Symbol.TheVariants.{Zero, One}
use Rattle.irig_frame.specs.FieldTable.{at, control_places}
use Rattle.irig_control.specs.declared.control.Control.{Control}
use Rattle.irig_control.specs.declared.parity.Parity.TheVariants.{Even, Odd}
use Rattle.irig_control.specs.ControlTable.{ControlBit, ParityBit, bits_of, meanings}
use Rattle.irig_control.specs.Control.{word_of, offset_in, control_of, normal_word}
use Rattle.irig_control.specs.Parity.{ones, has_parity}

-- ---- the table

abbrev all_bits : List ControlBit
all_bits = flat_map bits_of meanings

-- each of the 18 bits stands in the table once, in order
pub known_numbers : map (λ b. b.number) all_bits ≡ range_with_len 0 18
known_numbers = refl

-- its element is the one from which the frame's control bits get it
pub known_elements : map (λ b. at b.element (2 ^ b.number)) all_bits ≡ control_places
known_elements = refl

pub known_parity_element : map (λ b. b.element) (bits_of ParityBit) ≡ 75 ∷ []
known_parity_element = refl

-- ---- words

abbrev nothing : Control
nothing = record { leap_pending = false; leap_delete = false; dst_pending = false; dst = false; offset_half_hours = pos 0; quality = 0 }

-- a leap second pending, and an offset of minus eleven half hours
abbrev pending : Control
pending = record nothing { leap_pending = true; offset_half_hours = negsuc 10 }

pub known_word : word_of pending ≡ 689
unfolding word_of
known_word = refl

-- all bits but the sign, and all
pub known_bounds : map word_of
    (record { leap_pending = true; leap_delete = true; dst_pending = true; dst = true; offset_half_hours = pos 31; quality = 15 }
    ∷ record { leap_pending = true; leap_delete = true; dst_pending = true; dst = true; offset_half_hours = neg_ℤ (pos 31); quality = 15 } ∷ [])
    ≡ 16367 ∷ 16383 ∷ []
unfolding word_of
known_bounds = refl

-- pending 1, sign 16, five hours 32 and 128, half hour 512, parity 16384
pub known_meaning : control_of 17073 ≡ pending
unfolding control_of offset_in
known_meaning = refl

-- each bit by itself; the sign of a zero, the parity and the last three bits say nothing
pub known_bits : map (λ n. control_of (2 ^ n)) (range_with_len 0 18)
    ≡ record nothing { leap_pending = true } ∷ record nothing { leap_delete = true } ∷ record nothing { dst_pending = true } ∷ record nothing { dst = true }
    ∷ nothing
    ∷ record nothing { offset_half_hours = pos 2 } ∷ record nothing { offset_half_hours = pos 4 } ∷ record nothing { offset_half_hours = pos 8 } ∷ record nothing { offset_half_hours = pos 16 }
    ∷ record nothing { offset_half_hours = pos 1 }
    ∷ record nothing { quality = 1 } ∷ record nothing { quality = 2 } ∷ record nothing { quality = 4 } ∷ record nothing { quality = 8 }
    ∷ nothing ∷ nothing ∷ nothing ∷ nothing ∷ []
unfolding control_of offset_in
known_bits = refl

pub known_cleared : map normal_word (16 ∷ 17073 ∷ 262143 ∷ []) ≡ 0 ∷ 689 ∷ 16383 ∷ []
unfolding normal_word
known_cleared = refl

-- ---- frames

-- 2016-12-31T23:59:59Z with a leap second to be inserted, under even parity
abbrev leap_day : List Symbol
leap_day = symbols (codes "P10010101P100101010P110000100P011000110P110000000P011001000P100000000P000001000P111111101P000101010P")

-- the same at a local time eleven half hours above UTC
abbrev local_leap_day : List Symbol
local_leap_day = symbols (codes "P10010101P100100100P101000000P100000000P000000000P111001000P100011010P100001000P111010101P011001000P")

-- second 60 of 2016-12-30
abbrev second_60 : List Symbol
second_60 = symbols (codes "P00000011P100101010P110000100P101000110P110000000P011001000P000000000P000000000P000000011P000101010P")

-- 2000-01-03T00:00:00Z
abbrev plain_second : List Symbol
plain_second = symbols (codes "P00000000P000000000P000000000P110000000P000000000P000000000P000000000P000000000P000000000P000000000P")

-- the ones before element 75
pub leap_day_ones : ones (slice_set leap_day 75 Zero) ≡ 21
unfolding ones
leap_day_ones = refl

pub leap_day_parity : (has_parity Even leap_day ≡ true) × (has_parity Odd leap_day ≡ false) × (has_parity Odd (slice_set leap_day 75 Zero) ≡ true)
unfolding ones
leap_day_parity = (refl, refl, refl)

pub local_leap_day_ones : (ones (slice_set local_leap_day 75 Zero) ≡ 19) × (has_parity Even local_leap_day ≡ true)
unfolding ones
local_leap_day_ones = (refl, refl)

pub second_60_ones : (ones second_60 ≡ 18) × (has_parity Even second_60 ≡ true)
unfolding ones
second_60_ones = (refl, refl)

pub plain_second_ones : (ones plain_second ≡ 2) × (has_parity Even plain_second ≡ true)
unfolding ones
plain_second_ones = (refl, refl)

-- of the places 1 to 75, seven are markers
pub known_places : ones (map (λ _. One) (range_with_len 0 100)) ≡ 68
unfolding ones
known_places = refl
