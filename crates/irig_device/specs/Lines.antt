-- What a reader gives of a line.
-- Source: docs/SCENARIOS.md, lines; this project's profile.
use Rattle.std.specs.Prelude.{◌≡◌, ◌≢◌, ℕ, ◌+◌, Bool, true, false, ◌<◌, ◌≤◌, List, [], ◌∷◌, ◌++◌, length, take, slice_index, All, Option, Some, None, Result, Ok, Err, IfSome}
use Rattle.std.specs.Io.KnownBytes.{Consumes, IsAtEnd}
use Rattle.irig_device.specs.declared.line.LineEnd.{LineEnd}
use Rattle.irig_device.specs.declared.line.LineEnd.TheVariants.{Newline, EndOfInput, TooLong}
use Rattle.irig_device.specs.declared.line.ReadFault.{ReadFault}
use Rattle.irig_device.specs.declared.line.ReadFault.TheVariants.{Device, Memory}

-- the bytes of a device, if they are known
abbrev pub Bytes : Type 0
Bytes = Option (List ℕ)

-- none of the bytes is a newline
abbrev pub HasNoNewline : List ℕ → Type 0
HasNoNewline bytes = All (λ b. b ≢ 10) bytes

-- what a line that was read takes of the input
abbrev pub spelling : LineEnd → List ℕ → List ℕ
spelling Newline line = line ++ 10 ∷ []
spelling EndOfInput line = line
spelling TooLong line = line

-- a line that ends so is as long as its limit lets it be, or one byte longer
abbrev pub HasLength : LineEnd → ℕ → List ℕ → Type 0
HasLength Newline limit line = length line ≤ limit
HasLength EndOfInput limit line = length line ≤ limit
HasLength TooLong limit line = length line ≡ limit + 1

-- a reader that had `old` left has `new` left, and gave this line, or what shows that it is longer
-- than the limit
pub record GivesLine (end : LineEnd) (limit : ℕ) (line : List ℕ) (old new : Bytes) : Type 0 where
  pub taken : Consumes old new (spelling end line)
  pub has_length : HasLength end limit line
  pub whole : HasNoNewline line
  pub at_end : end ≡ EndOfInput → IfSome old (λ left. left ≡ line)

-- a reader that failed in a line gave this much of it
pub record GivesPart (old new : Bytes) : Type 0 where
  pub part : List ℕ
  pub taken : Consumes old new part
  pub whole : HasNoNewline part

-- whether the answer says that the device failed
abbrev pub says_device : {A : Type 0} → Result A ReadFault → Bool
says_device (Ok x) = false
says_device (Err Device) = true
says_device (Err Memory) = false

-- ---- a part of a line

-- a line with room for so many bytes has so many of these first, and goes on or ends so
abbrev pub EndsAfter : Option LineEnd → List ℕ → ℕ → ℕ → Type 0
EndsAfter None bytes room count = (0 < count) × (count ≤ room)
EndsAfter (Some Newline) bytes room count =
    (count < length bytes) × (slice_index bytes count ≡ 10) × (count ≤ room)
EndsAfter (Some EndOfInput) bytes room count = length bytes ≡ 0
EndsAfter (Some TooLong) bytes room count = count ≡ room + 1

-- these bytes show so many of a line, and whether it ends with them
pub record Shows (end : Option LineEnd) (bytes : List ℕ) (room count : ℕ) : Type 0 where
  pub within : count ≤ length bytes
  pub whole : HasNoNewline (take count bytes)
  pub ends : EndsAfter end bytes room count

-- what a part of a line takes of the input
abbrev pub part_spelling : Option LineEnd → List ℕ → List ℕ
part_spelling None part = part
part_spelling (Some end) part = spelling end part

-- a line that goes on has grown up to its limit at most
abbrev pub HasGrown : Option LineEnd → ℕ → List ℕ → List ℕ → Type 0
HasGrown None limit before after = (length before < length after) × (length after ≤ limit)
HasGrown (Some end) limit before after = HasLength end limit after

-- a reader gave a part of a line, which it ends so, if it does
pub record GivesMore (end : Option LineEnd) (limit : ℕ) (before after : List ℕ) (old new : Bytes)
    : Type 0 where
  pub part : List ℕ
  pub grown : after ≡ before ++ part
  pub taken : Consumes old new (part_spelling end part)
  pub has_length : HasGrown end limit before after
  pub whole : HasNoNewline part
  pub at_end : end ≡ Some EndOfInput → IsAtEnd old × (part ≡ [])
