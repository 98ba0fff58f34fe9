-- The control bits of IEEE 1344-1995, annex on IRIG-B: each bit with its number, the element that
-- carries it in the frame of IRIG Standard 200-16, format B, and the weight of a one there. It is
-- written in the order of the standard's table, to be laid beside it.
use Rattle.std.specs.Prelude.{ℕ, List, [], ◌∷◌}

-- what the control bits say
pub data ControlField : Type 0 where
  -- a leap second is pending
  LeapPending : ControlField
  -- it is to be deleted; 0 is for one to be inserted
  LeapDelete : ControlField
  -- daylight saving is about to begin or to end
  DstPending : ControlField
  -- daylight saving is in force
  Dst : ControlField
  -- the offset from UTC is negative
  OffsetMinus : ControlField
  -- the whole hours of the offset
  OffsetHours : ControlField
  -- a further half hour
  OffsetHalfHour : ControlField
  -- the time quality
  Quality : ControlField
  -- the parity of the frame
  ParityBit : ControlField
  -- this project's profile: sent as 0 and ignored
  Unused : ControlField

-- one bit
pub record ControlBit : Type 0 where
  pub number : ℕ
  pub element : ℕ
  pub weight : ℕ

-- the bit of this number, at this element and with this weight
abbrev pub bit : ℕ → ℕ → ℕ → ControlBit
bit number element weight = record { number = number; element = element; weight = weight }

-- the bits of a meaning
abbrev pub bits_of : ControlField → List ControlBit
bits_of LeapPending = bit 0 60 1 ∷ []
bits_of LeapDelete = bit 1 61 1 ∷ []
bits_of DstPending = bit 2 62 1 ∷ []
bits_of Dst = bit 3 63 1 ∷ []
bits_of OffsetMinus = bit 4 64 1 ∷ []
bits_of OffsetHours = bit 5 65 1 ∷ bit 6 66 2 ∷ bit 7 67 4 ∷ bit 8 68 8 ∷ []
bits_of OffsetHalfHour = bit 9 70 1 ∷ []
bits_of Quality = bit 10 71 1 ∷ bit 11 72 2 ∷ bit 12 73 4 ∷ bit 13 74 8 ∷ []
bits_of ParityBit = bit 14 75 1 ∷ []
bits_of Unused = bit 15 76 1 ∷ bit 16 77 2 ∷ bit 17 78 4 ∷ []

-- all of them, in the order of the table
abbrev pub meanings : List ControlField
meanings =
    LeapPending ∷ LeapDelete ∷ DstPending ∷ Dst ∷ OffsetMinus ∷ OffsetHours ∷ OffsetHalfHour
    ∷ Quality ∷ ParityBit ∷ Unused ∷ []
