-- What a port tells of the symbols that it was fed, by the first of eight lines that applies:
--   1  no symbols: silence; fewer than 100: Short; more than 100: Long
--   2  a wrong element: Pulse or Marker, of the lowest one
--   3  not the parity of the rules: Parity
--   4  a field with a digit above 9 or out of range: Digit or Range, of the first one
--   5  the straight binary seconds are compared and are another second's: Sbs
--   6  no second of UTC: NoSuchDay, OutOfYears, Second60 or DeletedSecond
--   7  quality 10 to 15: Poor
--   8  the claim
-- The order, and that quality 10 to 15 has no vote, are this project's profile.
use Rattle.std.specs.Prelude.{ℕ, ◌+◌, ◌*◌, Bool, false, not, ◌&&◌, ◌==◌, nat_lt, nat_le, if◌then◌else◌, List, length, Option, Some, None, Result, Ok, Err}
use Rattle.irig_frame.specs.declared.symbol.Symbol.{Symbol}
use Rattle.irig_frame.specs.declared.coded.Coded.{Coded}
use Rattle.irig_frame.specs.declared.fault.FrameFault.{FrameFault}
use Rattle.irig_frame.specs.declared.fault.FrameFault.TheVariants as frame_fault
use Rattle.irig_frame.specs.Faults.{first_wrong, values_of}
use Rattle.irig_control.specs.Parity.{has_parity}
use Rattle.irig_control.specs.Control.{control_of}
use Rattle.irig_time.specs.declared.rules.Rules.{Rules}
use Rattle.irig_time.specs.declared.rules.SbsUse.{SbsUse}
use Rattle.irig_time.specs.declared.rules.SbsUse.TheVariants.{Check, Ignore}
use Rattle.irig_time.specs.declared.claim.Claim.{Claim}
use Rattle.irig_time.specs.declared.claim.TimeFault.{TimeFault}
use Rattle.irig_time.specs.Claims.{claim_by}
use Rattle.irig_port.specs.declared.told.PortFault.TheVariants as fault
use Rattle.irig_port.specs.declared.told.Told.{Told}
use Rattle.irig_port.specs.declared.told.Told.TheVariants as tells
use Rattle.irig_port.specs.Heard.{symbols_of}

-- the straight binary seconds are compared if the rules say so and the second is below 60
abbrev pub is_sbs_wrong : SbsUse → Coded → Bool
is_sbs_wrong Check c = nat_lt c.second 60 && not (c.sbs == 3600 * c.hour + 60 * c.minute + c.second)
is_sbs_wrong Ignore c = false

-- lines 6, 7 and 8: the claim that the values make, or why they make none, and their quality
abbrev pub claim_told : Result Claim TimeFault → ℕ → Told
claim_told (Err f) quality = tells.Fault (fault.Time f)
claim_told (Ok claim) quality = if nat_le 10 quality then tells.Poor quality else tells.Claim claim

-- line 5, then what follows
unfoldable pub coded_told : Rules → Coded → Told
coded_told rules c =
    if is_sbs_wrong rules.sbs c then tells.Fault fault.Sbs
    else claim_told (claim_by rules.sense c (control_of c.control)) (control_of c.control).quality

-- line 4: the values that were read, or the fault of the first wrong field; then what follows
abbrev pub values_told : Rules → Result Coded FrameFault → Told
values_told rules (Err f) = tells.Fault (fault.Frame f)
values_told rules (Ok c) = coded_told rules c

-- line 2: the fault of the lowest wrong element, if one is wrong; else what follows
abbrev pub told_unless : Option FrameFault → Told → Told
told_unless (Some f) rest = tells.Fault (fault.Frame f)
told_unless None rest = rest

-- what 100 symbols tell: line 2, line 3, then what follows
unfoldable pub frame_told : Rules → List Symbol → Told
frame_told rules s =
    told_unless (first_wrong 0 s)
    (if has_parity rules.parity s then values_told rules (values_of s)
    else tells.Fault fault.Parity)

-- what some symbols tell: line 1, then what follows
unfoldable pub told_of : Rules → List Symbol → Told
told_of rules s =
    if length s == 0 then tells.Silence
    else (if nat_lt (length s) 100 then tells.Fault (fault.Frame (frame_fault.Short (length s)))
    else (if nat_lt 100 (length s) then tells.Fault (fault.Frame frame_fault.Long)
    else frame_told rules s))

-- what some widths tell
abbrev pub told_of_widths : Rules → List ℕ → Told
told_of_widths rules widths = told_of rules (symbols_of widths)

-- a fact of the claim, if one is told
abbrev pub IfClaim : Told → (Claim → Type 0) → Type 0
IfClaim (tells.Claim c) P = P c
IfClaim tells.Silence P = Unit {0}
IfClaim (tells.Fault f) P = Unit {0}
IfClaim (tells.Poor q) P = Unit {0}
