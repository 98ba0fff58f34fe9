-- What a record says: its configuration and its samples.
-- Source: IEEE C37.111-2013, 5.3 and 6.4 to 6.6.
use Rattle.std.specs.Prelude.{◌≡◌, ℕ, ◌+◌, ◌*◌, ◌/◌, Bool, true, false, ◌&&◌, List, [], ◌∷◌, ◌++◌, Option, Result, Ok, nat_lt, nat_le, ⊤}
use Rattle.record_text.specs.Decimals.{places_in}
use Rattle.record_text.specs.Fields.{field}
use Rattle.record_levels.specs.declared.levels.Levels.{Levels}
use Rattle.record_comtrade.specs.declared.fault.Fault.{Fault}
use Rattle.record_comtrade.specs.declared.parts.Form.{Form}
use Rattle.record_comtrade.specs.declared.parts.Form.TheVariants.{Ascii, Binary, Binary32, Float32}
use Rattle.record_comtrade.specs.declared.clock.Clock.{Clock}
use Rattle.record_comtrade.specs.declared.reading.ConfigText.{ConfigText}
use Rattle.record_comtrade.specs.declared.parts.Config.{Config}
use Rattle.record_comtrade.specs.declared.data.Data.{Data}
use Rattle.record_comtrade.specs.Texts.{config_lines}
use Rattle.record_comtrade.specs.Configs.{ConfigValue, config_of, text_at, with_ok}
use Rattle.record_comtrade.specs.Reads.{ReadsOn, value_of}
use Rattle.record_comtrade.specs.Samples.{Plan, Said, changes_of}
use Rattle.record_comtrade.specs.Data.{Leads, said, to_come}

-- samples are numbers, and no text
abbrev pub are_numbers : Form → Bool
are_numbers Ascii = false
are_numbers Binary = true
are_numbers Binary32 = true
are_numbers Float32 = true

-- how many bytes an analog channel has
abbrev pub width_of : Form → ℕ
width_of Ascii = 0
width_of Binary = 2
width_of Binary32 = 4
width_of Float32 = 4

-- where the digital channels of a sample begin: after its number, its time and the analog channels
abbrev pub offset_of : ConfigValue → ℕ
offset_of config = 8 + config.counts.analogs * width_of config.tail.form

-- how many bytes a sample has: two more for each 16 digital channels, or what is left of them
abbrev pub size_of : ConfigValue → ℕ
size_of config = offset_of config + 2 * ((config.counts.digitals + 15) / 16)

-- the unit of samples' own times: a nanosecond since 2013, if the first stamp has more than six decimals
abbrev pub is_fine : ConfigValue → Bool
is_fine config = nat_le 2013 config.counts.edition && nat_lt 6 (places_in (field 1 (text_at config.lines config.stamps)))

-- the unit of the samples' own times
abbrev pub clock_of : ConfigValue → Clock
clock_of config = record { multiple = config.tail.multiple; is_fine = is_fine config }

-- what is read of the samples, of the digital channels at these places
abbrev pub plan_by : ConfigValue → (chosen : List ℕ) → Plan
plan_by config chosen = record { rates = config.rates; clock = clock_of config; offset = offset_of config; chosen = chosen }

-- what the bytes of samples say by a configuration
abbrev pub samples_say : (chosen : List ℕ) → (samples : List ℕ) → ConfigValue → List Said
samples_say chosen samples config = changes_of (plan_by config chosen) (size_of config) samples

-- what a record says of the digital channels at these places, or why its configuration is refused
abbrev pub record_of : (chosen : List ℕ) → (configuration samples : List ℕ) → Result (List Said) Fault
record_of chosen configuration samples =
    with_ok (config_of (config_lines configuration)) (λ config. Ok (samples_say chosen samples config))

-- this is a reader of the samples of that configuration
abbrev pub IsDataOf : Config → (chosen : List ℕ) → Data → Type 0
IsDataOf config chosen reader = (more : List ℕ) → to_come reader more ≡ samples_say chosen more (value_of config)

-- ---- calls

-- a call of a reader of samples: the bytes that it took, the levels that it said, and the reader then
pub record Call : Type 0 where
  pub taken : List ℕ
  pub levels : Option Levels
  pub next : Data

-- calls of a reader, one after another
abbrev pub AreCalls : Data → List Call → Type 0
AreCalls reader [] = ⊤
AreCalls reader (call ∷ calls) = Leads reader call.taken call.levels call.next × AreCalls call.next calls

-- all the bytes that calls took
abbrev pub taken_by : List Call → List ℕ
taken_by [] = []
taken_by (call ∷ calls) = call.taken ++ taken_by calls

-- all that they said
abbrev pub said_in : List Call → List Said
said_in [] = []
said_in (call ∷ calls) = said call.levels ++ said_in calls

-- the reader after them
abbrev pub reader_after : Data → List Call → Data
reader_after reader [] = reader
reader_after reader (call ∷ calls) = reader_after call.next calls

-- a call of a reader of a configuration
pub record Piece : Type 0 where
  pub taken : List ℕ
  pub next : ConfigText

-- pieces of a configuration that were read, one after another
abbrev pub ArePieces : ConfigText → List Piece → Type 0
ArePieces read [] = ⊤
ArePieces read (piece ∷ pieces) = ReadsOn read piece.taken piece.next × ArePieces piece.next pieces

-- all their bytes
abbrev pub bytes_of : List Piece → List ℕ
bytes_of [] = []
bytes_of (piece ∷ pieces) = piece.taken ++ bytes_of pieces

-- what has read them
abbrev pub text_after : ConfigText → List Piece → ConfigText
text_after read [] = read
text_after read (piece ∷ pieces) = text_after piece.next pieces
