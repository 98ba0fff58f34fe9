-- What a section of the head of a value change dump says.
-- Source: IEEE 1364-2005, 18.2.3: $timescale, $var, $enddefinitions; each ends with $end. That a number may be
-- any, and that names of several words are joined, is this project's profile.
use Rattle.std.specs.Prelude.{ℕ, ◌+◌, ◌*◌, ◌^◌, Bool, true, false, ◌&&◌, ◌||◌, if◌then◌else◌, List, [], ◌∷◌, ◌++◌, length, map, take, drop, codes, Option, Some, None, nat_lt, nat_le}
use Rattle.std.specs.Str.{bytes_eq}
use Rattle.record_text.specs.Numbers.{is_digit, number}
use Rattle.record_vcd.specs.declared.unit.Unit.{Unit}
use Rattle.record_vcd.specs.declared.unit.Part.{Part}
use Rattle.record_vcd.specs.declared.unit.Part.TheVariants.{Whole, Thousandth, Millionth}
use Rattle.record_vcd.specs.declared.wire.Wire.{Wire}
use Rattle.record_vcd.specs.declared.section.Text.{Text}
use Rattle.record_vcd.specs.declared.section.Section.{Section}
use Rattle.record_vcd.specs.declared.section.Section.TheVariants.{Between, Timescale, Var, Definitions, Other, Over}

-- the words of a section
abbrev pub texts_of : List Text → List (List ℕ)
texts_of texts = map (λ text. text.bytes.items) texts

-- the name of a wire, and what stands for it below the head
pub record WireValue : Type 0 where
  pub name : List ℕ
  pub code : List ℕ

-- a wire by the bytes of its name and its code
abbrev pub wire_value : Wire → WireValue
wire_value wire = record { name = wire.name.items; code = wire.code.items }

-- so each of some wires
abbrev pub wires_of : List Wire → List WireValue
wires_of wires = map wire_value wires

-- the section that a word opens
abbrev pub section_of : (word : List ℕ) → Section
section_of word =
    if bytes_eq word (codes "$timescale") then Timescale
    else (if bytes_eq word (codes "$var") then Var
    else (if bytes_eq word (codes "$enddefinitions") then Definitions else Other))

-- the sections whose words say something
abbrev pub keeps : Section → Bool
keeps Timescale = true
keeps Var = true
keeps Between = false
keeps Definitions = false
keeps Other = false
keeps Over = false

-- the head has ended
abbrev pub is_over : Section → Bool
is_over Over = true
is_over Between = false
is_over Timescale = false
is_over Var = false
is_over Definitions = false
is_over Other = false

-- so many of a part of a second are a unit
abbrev pub unit : (times : ℕ) → Part → Option Unit
unit times part = Some (record { times = times; part = part })

-- the unit of a name
abbrev pub scale_of : (name : List ℕ) → Option Unit
scale_of name =
    if bytes_eq name (codes "s") then unit 1000000000 Whole
    else (if bytes_eq name (codes "ms") then unit 1000000 Whole
    else (if bytes_eq name (codes "us") then unit 1000 Whole
    else (if bytes_eq name (codes "ns") then unit 1 Whole
    else (if bytes_eq name (codes "ps") then unit 1 Thousandth
    else (if bytes_eq name (codes "fs") then unit 1 Millionth else None)))))

-- so many of them, if it is at least one, and less than 2^64 parts
abbrev pub scaled : (number : ℕ) → (scale : Option Unit) → Option Unit
scaled n None = None
scaled n (Some scale) =
    if nat_lt 0 n && nat_lt (n * scale.times) (2 ^ 64) then unit (n * scale.times) scale.part else None

-- the unit that a number and a name say, if both are right
abbrev pub unit_by : (number : Option ℕ) → (name : List ℕ) → Option Unit
unit_by (Some n) name = scaled n (scale_of name)
unit_by None name = None

-- how many digits a word begins with
abbrev pub digits_in : List ℕ → ℕ
digits_in [] = 0
digits_in (b ∷ bs) = if is_digit b then digits_in bs + 1 else 0

-- the unit of a timescale: a number and a name, in one word or in two
abbrev pub unit_of : List (List ℕ) → Option Unit
unit_of [] = None
unit_of (both ∷ []) = unit_by (number (take (digits_in both) both)) (drop (digits_in both) both)
unit_of (digits ∷ name ∷ []) = unit_by (number digits) name
unit_of (digits ∷ name ∷ other ∷ others) = None

-- words with a blank between two
abbrev pub joined : (first : List ℕ) → (others : List (List ℕ)) → List ℕ
joined first [] = first
joined first (text ∷ others) = joined ((first ++ 32 ∷ []) ++ text) others

-- a wire of one bit, whose code has up to 254 bytes
abbrev pub wire_by : (size code name : List ℕ) → Option WireValue
wire_by size code name =
    if bytes_eq size (codes "1") && nat_le (length code) 254 then Some (record { name = name; code = code }) else None

-- the wire of a variable: its type, its size, its code and the words of its name
abbrev pub wire_of : List (List ℕ) → Option WireValue
wire_of [] = None
wire_of (kind ∷ []) = None
wire_of (kind ∷ size ∷ []) = None
wire_of (kind ∷ size ∷ code ∷ []) = None
wire_of (kind ∷ size ∷ code ∷ first ∷ others) = wire_by size code (joined first others)

-- one of these wires has the name
abbrev pub has_name : List WireValue → (name : List ℕ) → Bool
has_name [] name = false
has_name (wire ∷ wires) name = bytes_eq wire.name name || has_name wires name

-- the wires with one more, unless another has its name
abbrev pub named : List WireValue → Option WireValue → List WireValue
named wires None = wires
named wires (Some wire) = if has_name wires wire.name then wires else wires ++ wire ∷ []
