-- The faults of a frame, in their order: the length; the lowest wrong element; the first wrong
-- field.
-- Source: the order is this project's profile (docs/FAULTS.md).
use Rattle.std.specs.Prelude.{ℕ, ◌+◌, List, [], ◌∷◌, if◌then◌else◌, nat_lt, Option, Some, None, Result, Ok, Err, length}
use Rattle.std.specs.Option.{option_or}
use Rattle.irig_frame.specs.declared.symbol.Symbol.{Symbol}
use Rattle.irig_frame.specs.declared.symbol.Symbol.TheVariants.{Marker, Bad}
use Rattle.irig_frame.specs.declared.layout.Field.{Field}
use Rattle.irig_frame.specs.declared.layout.Field.TheVariants.{Second, Minute, Hour, Day, Year}
use Rattle.irig_frame.specs.declared.coded.Coded.{Coded}
use Rattle.irig_frame.specs.declared.fault.FrameFault.{FrameFault}
use Rattle.irig_frame.specs.declared.fault.FrameFault.TheVariants as fault
use Rattle.irig_frame.specs.FieldTable.{units_of, tens_of, places_of, control_places, straight_binary_places, is_marker_place}
use Rattle.irig_frame.specs.Values.{value}
use Rattle.irig_frame.specs.Decoder.{least, most}

-- the step after a step that gave a value
infixl 10 ◌>>=◌
abbrev pub ◌>>=◌ : {A B : Type 0} → Result A FrameFault → (A → Result B FrameFault)
    → Result B FrameFault
(Ok x) >>= f = f x
(Err e) >>= f = Err e

-- the fault, if there is one, and else what follows
abbrev pub unless : {A : Type 0} → Option FrameFault → Result A FrameFault → Result A FrameFault
unless (Some f) r = Err f
unless None r = r

-- the fault of an element, if it has one
abbrev pub element_fault : ℕ → Symbol → Option FrameFault
element_fault i Bad = Some (fault.Pulse i)
element_fault i Marker = if is_marker_place i then None else Some (fault.Marker i)
element_fault i _ = if is_marker_place i then Some (fault.Marker i) else None

-- the fault of the lowest wrong element, if the first of the list is element i
abbrev pub first_wrong : ℕ → List Symbol → Option FrameFault
first_wrong i [] = None
first_wrong i (x ∷ xs) = option_or (element_fault i x) (first_wrong (i + 1) xs)

-- the value of a field, or its fault: a digit above 9, else a value out of range
unfoldable pub field_at : List Symbol → Field → Result ℕ FrameFault
field_at s f =
    if nat_lt 9 (value (units_of f) s) then Err (fault.Digit f)
    else (if nat_lt 90 (value (tens_of f) s) then Err (fault.Digit f)
    else (if nat_lt (value (places_of f) s) (least f) then Err (fault.Range f)
    else (if nat_lt (most f) (value (places_of f) s) then Err (fault.Range f)
    else Ok (value (places_of f) s))))

-- the values of a frame whose elements are right, or the fault of the first wrong field
unfoldable pub values_of : List Symbol → Result Coded FrameFault
values_of s = do
  second ← field_at s Second
  minute ← field_at s Minute
  hour ← field_at s Hour
  day ← field_at s Day
  year ← field_at s Year
  Ok (record {
    second = second;
    minute = minute;
    hour = hour;
    day = day;
    year = year;
    control = value control_places s;
    sbs = value straight_binary_places s;
  })

-- what a frame is decoded to, or its first fault
unfoldable pub decode_result : List Symbol → Result Coded FrameFault
decode_result s =
    if nat_lt (length s) 100 then Err (fault.Short (length s))
    else (if nat_lt 100 (length s) then Err fault.Long
    else unless (first_wrong 0 s) (values_of s))
