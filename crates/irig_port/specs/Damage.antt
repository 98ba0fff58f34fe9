-- One damaged pulse: what a port tells of a frame in which one symbol is another.
-- Source: docs/READER.md; the elements by docs/FRAME.md: IRIG Standard 200-16, code B004 (straight
-- binary seconds at 80 to 97), and IEEE 1344-1995 (control bits), with the parity of elements 1 to
-- 75 by this project's profile.
use Rattle.std.specs.Prelude.{◌≡◌, ℕ, Bool, false, nat_lt, List, [], ◌∷◌, Option, Some, ⊤}
use Rattle.irig_frame.specs.declared.symbol.Symbol.{Symbol}
use Rattle.irig_frame.specs.declared.symbol.Symbol.TheVariants.{Zero, One}
use Rattle.irig_time.specs.declared.rules.SbsUse.{SbsUse}
use Rattle.irig_time.specs.declared.rules.SbsUse.TheVariants.{Check, Ignore}
use Rattle.irig_time.specs.declared.claim.Claim.{Claim}
use Rattle.irig_port.specs.declared.told.Told.{Told}
use Rattle.irig_port.specs.declared.told.Told.TheVariants as tells

-- what is told is a fault, or this claim: never another claim, and no silence or poor frame
abbrev pub IsFaultOr : Claim → Told → Type 0
IsFaultOr c (tells.Fault f) = ⊤
IsFaultOr c (tells.Claim d) = d ≡ c
IsFaultOr c tells.Silence = ⊥
IsFaultOr c (tells.Poor q) = ⊥

-- a bit stands there, and the symbol is the other one
abbrev pub IsOtherBit : Option Symbol → Symbol → Type 0
IsOtherBit (Some Zero) One = ⊤
IsOtherBit (Some One) Zero = ⊤
IsOtherBit _ _ = ⊥

-- whether the straight binary seconds of a frame with this claim are compared: if the rules say
-- so, but for second 60, which is second 86400 of its day
abbrev pub compares_seconds : SbsUse → Claim → Bool
compares_seconds Check c = nat_lt c.at.sod 86400
compares_seconds Ignore c = false

-- the data elements that are not read and that the parity does not count: control bits 15 to 17,
-- and the element before P0
abbrev pub unread_places : List ℕ
unread_places = 76 ∷ 77 ∷ 78 ∷ 98 ∷ []
