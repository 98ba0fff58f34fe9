-- The parity of a frame. What it counts is this project's profile: the ones at the data places 1 to
-- 75, element 75, which carries the parity bit, included. Marker places never count.
use Rattle.std.specs.Prelude.{ℕ, ◌%◌, ◌^◌, ◌<◌, Bool, ◌==◌, not, ◌&&◌, if◌then◌else◌, IsTrue, List, count_by, slice_get, slice_set}
use Rattle.std.specs.List.{range_with_len}
use Rattle.irig_frame.specs.declared.symbol.Symbol.{Symbol}
use Rattle.irig_frame.specs.declared.symbol.Symbol.TheVariants.{Zero, One}
use Rattle.irig_frame.specs.FieldTable.{is_marker_place}
use Rattle.irig_frame.specs.declared.coded.Coded.{Coded}
use Rattle.irig_frame.specs.Decoder.{Reads}
use Rattle.irig_frame.specs.Encoder.{HasUnusedZeros}
use Rattle.irig_frame.specs.Values.{is_one}
use Rattle.irig_control.specs.declared.parity.Parity.{Parity}
use Rattle.irig_control.specs.declared.parity.Parity.TheVariants.{Even, Odd}

-- whether the element is a data place that holds a one
abbrev pub is_counted : List Symbol → ℕ → Bool
is_counted s i = not (is_marker_place i) && is_one (slice_get s i)

-- how many of the data places 1 to 75 hold a one
unfoldable pub ones : List Symbol → ℕ
ones s = count_by (is_counted s) (range_with_len 1 75)

-- the remainder by 2 of a number of ones
abbrev pub remainder_of : Parity → ℕ
remainder_of Even = 0
remainder_of Odd = 1

-- whether the ones that count leave that remainder
abbrev pub has_parity : Parity → List Symbol → Bool
has_parity p s = ones s % 2 == remainder_of p

-- the frame has the parity
abbrev pub HasParity : Parity → List Symbol → Type 0
HasParity p s = IsTrue (has_parity p s)

-- the symbol of a data place
abbrev pub data_symbol : Bool → Symbol
data_symbol b = if b then One else Zero

-- the frame with a 0 at element 75, or a 1 if the 0 doesn't give the parity
abbrev pub with_parity : Parity → List Symbol → List Symbol
with_parity p s = slice_set s 75 (data_symbol (not (has_parity p (slice_set s 75 Zero))))

-- the value without the parity and the last three bits
abbrev pub without_parity : Coded → Coded
without_parity c = record c { control = c.control % 2 ^ 14 }

-- the frame has the parity and reads as the value; its last three control bits and its unused
-- elements are 0
pub record ReadsWithParity (p : Parity) (s : List Symbol) (c : Coded) : Type 0 where
  pub reads : Reads s c
  pub unused : c.control < 2 ^ 15
  pub spare : HasUnusedZeros s
  pub parity : HasParity p s
