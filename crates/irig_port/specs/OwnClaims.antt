-- What a port tells of a line of frames.
-- Source: this project's profile.
use Rattle.std.specs.Prelude.{◌≡◌, ℕ, ◌*◌, List, map, slice_set, ⊤}
use Rattle.std.specs.List.{range_with_len}
use Rattle.irig_frame.specs.declared.symbol.Symbol.{Symbol}
use Rattle.irig_time.specs.declared.rules.Rules.{Rules}
use Rattle.irig_time.specs.declared.claim.Claim.{Claim}
use Rattle.irig_port.specs.declared.told.Told.{Told}
use Rattle.irig_port.specs.declared.told.Told.TheVariants as tells
use Rattle.irig_port.specs.Told.{told_of}

-- the line's symbols of its f-th frame
abbrev pub frame_at : (ℕ → Symbol) → ℕ → List Symbol
frame_at line f = map line (range_with_len (100 * f) 100)

-- a line of frames, each of which tells its claim
abbrev pub TellsClaims : Rules → (ℕ → Symbol) → (ℕ → Claim) → Type 0
TellsClaims rules line claims = (f : ℕ) → told_of rules (frame_at line f) ≡ tells.Claim (claims f)

-- what is told of these symbols is a fault, or silence, or the claim of the frame of which they
-- are, with at most one symbol changed; never a poor frame
abbrev pub IsFaultOrOwn : (ℕ → Symbol) → (ℕ → Claim) → List Symbol → Told → Type 0
IsFaultOrOwn line claims heard (tells.Claim c) =
    (f : ℕ) × (i : ℕ) × (x : Symbol) × (heard ≡ slice_set (frame_at line f) i x) × (c ≡ claims f)
IsFaultOrOwn line claims heard (tells.Fault f) = ⊤
IsFaultOrOwn line claims heard tells.Silence = ⊤
IsFaultOrOwn line claims heard (tells.Poor q) = ⊥
