-- What it is for a frame to read as a value.
-- Source: IRIG Standard 200-16, format B; second 60 by ITU-R TF.460.
use Rattle.std.specs.Prelude.{◌≡◌, ℕ, ◌<◌, ◌≤◌, ◌^◌, true, false, List, Option, Some, slice_get, length}
use Rattle.irig_frame.specs.declared.symbol.Symbol.{Symbol}
use Rattle.irig_frame.specs.declared.symbol.Symbol.TheVariants.{Marker, Bad}
use Rattle.irig_frame.specs.declared.layout.Field.{Field}
use Rattle.irig_frame.specs.declared.layout.Field.TheVariants.{Second, Minute, Hour, Day, Year}
use Rattle.irig_frame.specs.declared.coded.Coded.{Coded}
use Rattle.irig_frame.specs.FieldTable.{units_of, tens_of, places_of, control_places, straight_binary_places, is_marker_place}
use Rattle.irig_frame.specs.Values.{value}

-- the least value that a frame may code in a field
abbrev pub least : Field → ℕ
least Day = 1
least _ = 0

-- the greatest; second 60 is an inserted leap second
abbrev pub most : Field → ℕ
most Second = 60
most Minute = 59
most Hour = 23
most Day = 366
most Year = 99

-- the symbol may stand at the element: a marker at a marker place, and a 0 or a 1 elsewhere
abbrev pub IsRight : ℕ → Option Symbol → Type 0
IsRight i (Some Marker) = is_marker_place i ≡ true
IsRight i (Some Bad) = ⊥
IsRight i _ = is_marker_place i ≡ false

-- no decimal digit is above 9; the weights of the tens carry the ten
abbrev pub HasDigits : List Symbol → Field → Type 0
HasDigits s f = (value (units_of f) s ≤ 9) × (value (tens_of f) s ≤ 90)

-- the value of the field lies between these two
abbrev pub IsInRange : List Symbol → Field → Type 0
IsInRange s f = (least f ≤ value (places_of f) s) × (value (places_of f) s ≤ most f)

-- the symbols read as the value; nothing is asked of data elements without a field
pub record Reads (s : List Symbol) (c : Coded) : Type 0 where
  pub len : length s ≡ 100
  pub elements : (i : ℕ) → i < 100 → IsRight i (slice_get s i)
  pub digits : (f : Field) → HasDigits s f
  pub ranges : (f : Field) → IsInRange s f
  pub second : c.second ≡ value (places_of Second) s
  pub minute : c.minute ≡ value (places_of Minute) s
  pub hour : c.hour ≡ value (places_of Hour) s
  pub day : c.day ≡ value (places_of Day) s
  pub year : c.year ≡ value (places_of Year) s
  pub control : c.control ≡ value control_places s
  pub sbs : c.sbs ≡ value straight_binary_places s

-- the bounds of what a frame can code
pub record IsCoded (c : Coded) : Type 0 where
  pub second : c.second ≤ 60
  pub minute : c.minute ≤ 59
  pub hour : c.hour ≤ 23
  pub day : (1 ≤ c.day) × (c.day ≤ 366)
  pub year : c.year ≤ 99
  pub control : c.control < 2 ^ 18
  pub sbs : c.sbs < 2 ^ 17
