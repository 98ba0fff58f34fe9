-- The frame that codes a value, place by place.
-- Source: the field table of specs/FieldTable.antt; zeros at elements without a field by this
-- project's profile.
use Rattle.std.specs.Prelude.{◌≡◌, ℕ, ◌-◌, ◌/◌, ◌%◌, ◌==◌, List, [], ◌∷◌, ◌++◌, ◌<◌, if◌then◌else◌, length, map, All, Some, slice_get, slice_set}
use Rattle.std.specs.List.{range_with_len}
use Rattle.irig_frame.specs.declared.symbol.Symbol.{Symbol}
use Rattle.irig_frame.specs.declared.symbol.Symbol.TheVariants.{Zero, One, Marker}
use Rattle.irig_frame.specs.declared.layout.Field.{Field}
use Rattle.irig_frame.specs.declared.layout.Field.TheVariants.{Second, Minute, Hour, Day, Year}
use Rattle.irig_frame.specs.declared.coded.Coded.{Coded}
use Rattle.irig_frame.specs.FieldTable.{TableEntry, units_of, tens_of, hundreds_of, control_places, straight_binary_places, is_marker_place, spare_places}

-- the data elements without a field are 0
abbrev pub HasUnusedZeros : List Symbol → Type 0
HasUnusedZeros s = All (λ i. slice_get s i ≡ Some Zero) spare_places

-- the bit of the number at a weight
abbrev pub bit_symbol : ℕ → ℕ → Symbol
bit_symbol number weight = if number / weight % 2 == 1 then One else Zero

-- the frame with the bits of the number at these places
abbrev pub with_bits : List Symbol → List TableEntry → ℕ → List Symbol
with_bits s [] number = s
with_bits s (p ∷ ps) number =
    with_bits (slice_set s p.element (bit_symbol number p.weight)) ps number

-- some places, and the number that they hold
pub record Part : Type 0 where
  pub places : List TableEntry
  pub number : ℕ

-- the frame with all of these parts, one after another
abbrev pub with_parts : List Symbol → List Part → List Symbol
with_parts s [] = s
with_parts s (p ∷ ps) = with_parts (with_bits s p.places p.number) ps

-- the decimal digits of a field's value
abbrev pub digits_of : Field → ℕ → List Part
digits_of f n =
    record { places = units_of f; number = n % 10 }
    ∷ record { places = tens_of f; number = n % 100 - n % 10 }
    ∷ record { places = hundreds_of f; number = n - n % 100 } ∷ []

-- all parts of a value: the fields, the control bits and the straight binary seconds
abbrev pub parts_of : Coded → List Part
parts_of c =
    digits_of Second c.second ++ digits_of Minute c.minute ++ digits_of Hour c.hour
    ++ digits_of Day c.day ++ digits_of Year c.year
    ++ record { places = control_places; number = c.control }
    ∷ record { places = straight_binary_places; number = c.sbs } ∷ []

-- an element before anything is written into it
abbrev pub blank_at : ℕ → Symbol
blank_at i = if is_marker_place i then Marker else Zero

-- 100 such elements
abbrev pub IsBlank : List Symbol → Type 0
IsBlank s = (length s ≡ 100) × ((i : ℕ) → i < 100 → slice_get s i ≡ Some (blank_at i))

-- the frame that is blank
abbrev pub blank_frame : List Symbol
blank_frame = map blank_at (range_with_len 0 100)

-- the frame that reads as the value, with zeros at the data elements without a field
unfoldable pub frame_of_coded : Coded → List Symbol
frame_of_coded c = with_parts blank_frame (parts_of c)
