-- The field table of IRIG Standard 200-16, format B, code B004: each element with the weight of a
-- one there, least weight first. It is written in the order of the standard's table, to be laid
-- beside it.
use Rattle.std.specs.Prelude.{ℕ, ◌%◌, Bool, ◌==◌, ◌||◌, List, [], ◌∷◌, ◌++◌}
use Rattle.irig_frame.specs.declared.layout.Field.{Field}
use Rattle.irig_frame.specs.declared.layout.Field.TheVariants.{Second, Minute, Hour, Day, Year}
use Rattle.irig_frame.specs.declared.layout.BitPosition.{BitPosition}

-- an element of the frame with its weight; the name serves the crates above, too
abbrev pub TableEntry : Type 0
TableEntry = BitPosition

-- an element with the weight of a one there
abbrev pub at : ℕ → ℕ → TableEntry
at element weight = record { element = element; weight = weight }

-- the units digit of a field
abbrev pub units_of : Field → List TableEntry
units_of Second = at 1 1 ∷ at 2 2 ∷ at 3 4 ∷ at 4 8 ∷ []
units_of Minute = at 10 1 ∷ at 11 2 ∷ at 12 4 ∷ at 13 8 ∷ []
units_of Hour = at 20 1 ∷ at 21 2 ∷ at 22 4 ∷ at 23 8 ∷ []
units_of Day = at 30 1 ∷ at 31 2 ∷ at 32 4 ∷ at 33 8 ∷ []
units_of Year = at 50 1 ∷ at 51 2 ∷ at 52 4 ∷ at 53 8 ∷ []

-- its tens digit
abbrev pub tens_of : Field → List TableEntry
tens_of Second = at 6 10 ∷ at 7 20 ∷ at 8 40 ∷ []
tens_of Minute = at 15 10 ∷ at 16 20 ∷ at 17 40 ∷ []
tens_of Hour = at 25 10 ∷ at 26 20 ∷ []
tens_of Day = at 35 10 ∷ at 36 20 ∷ at 37 40 ∷ at 38 80 ∷ []
tens_of Year = at 55 10 ∷ at 56 20 ∷ at 57 40 ∷ at 58 80 ∷ []

-- its hundreds digit, which the day of the year alone has
abbrev pub hundreds_of : Field → List TableEntry
hundreds_of Day = at 40 100 ∷ at 41 200 ∷ []
hundreds_of _ = []

-- all of a field
abbrev pub places_of : Field → List TableEntry
places_of f = units_of f ++ tens_of f ++ hundreds_of f

-- the control functions, bits 0 to 8 and 9 to 17
abbrev pub control_places : List TableEntry
control_places =
    at 60 1 ∷ at 61 2 ∷ at 62 4 ∷ at 63 8 ∷ at 64 16 ∷ at 65 32 ∷ at 66 64 ∷ at 67 128 ∷ at 68 256
    ∷ at 70 512 ∷ at 71 1024 ∷ at 72 2048 ∷ at 73 4096 ∷ at 74 8192 ∷ at 75 16384
    ∷ at 76 32768 ∷ at 77 65536 ∷ at 78 131072 ∷ []

-- the straight binary seconds, 2^0 to 2^8 and 2^9 to 2^16
abbrev pub straight_binary_places : List TableEntry
straight_binary_places =
    at 80 1 ∷ at 81 2 ∷ at 82 4 ∷ at 83 8 ∷ at 84 16 ∷ at 85 32 ∷ at 86 64 ∷ at 87 128 ∷ at 88 256
    ∷ at 90 512 ∷ at 91 1024 ∷ at 92 2048 ∷ at 93 4096 ∷ at 94 8192 ∷ at 95 16384 ∷ at 96 32768
    ∷ at 97 65536 ∷ []

-- the reference marker and the position identifiers P1 to P9 and P0: 0, 9, 19, .. and 99
abbrev pub is_marker_place : ℕ → Bool
is_marker_place i = (i == 0) || (i % 10 == 9)

-- the data elements without a field
abbrev pub spare_places : List ℕ
spare_places = 5 ∷ 14 ∷ 18 ∷ 24 ∷ 27 ∷ 28 ∷ 34 ∷ 42 ∷ 43 ∷ 44 ∷ 45 ∷ 46 ∷ 47 ∷ 48 ∷ 54 ∷ 98 ∷ []
