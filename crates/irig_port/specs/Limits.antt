-- Limits beyond which a right frame has no vote.
-- Source: docs/READER.md; this project's profile.
use Rattle.std.specs.Prelude.{ℕ, ◌<◌, ◌≤◌, nat_lt, nat_le, if◌then◌else◌, List, Option, Some, None, ⊤}
use Rattle.irig_frame.specs.declared.symbol.Symbol.{Symbol}
use Rattle.irig_frame.specs.FieldTable.{control_places}
use Rattle.irig_frame.specs.Values.{value}
use Rattle.irig_control.specs.Control.{control_of}
use Rattle.irig_time.specs.declared.rules.Rules.{Rules}
use Rattle.irig_time.specs.declared.claim.Claim.{Claim}
use Rattle.irig_port.specs.declared.limits.Limits.{Limits}
use Rattle.irig_port.specs.declared.told.PortFault.TheVariants as fault
use Rattle.irig_port.specs.declared.told.Told.{Told}
use Rattle.irig_port.specs.declared.told.Told.TheVariants as tells
use Rattle.irig_port.specs.Heard.{symbols_of}
use Rattle.irig_port.specs.declared.tally.Tally.{Tally}
use Rattle.irig_port.specs.Tallies.{control_word_in, tally_told}
use Rattle.irig_port.specs.Told.{told_of}

-- the time quality that a frame says
abbrev pub quality_in : List Symbol → ℕ
quality_in s = (control_of (value control_places s)).quality

-- what is told by a frame of this quality: a claim has a vote within the limits alone
abbrev pub limited : Limits → ℕ → Told → Told
limited limits quality (tells.Claim c) =
    if nat_le limits.poor_from quality then tells.Poor quality
    else (if nat_lt c.at.day limits.not_before then tells.Fault fault.Early else tells.Claim c)
limited limits quality told = told

-- what some symbols tell within limits, if there are any
abbrev pub told_within : Option Limits → Rules → List Symbol → Told
told_within None rules s = told_of rules s
told_within (Some limits) rules s = limited limits (quality_in s) (told_of rules s)

-- what some widths tell so
abbrev pub widths_told_within : Option Limits → Rules → List ℕ → Told
widths_told_within limits rules widths = told_within limits rules (symbols_of widths)

-- what the numbers of a tally tell so
abbrev pub tally_told_within : Option Limits → Rules → Tally → Told
tally_told_within None rules t = tally_told rules t
tally_told_within (Some limits) rules t =
    limited limits (control_of (control_word_in t)).quality (tally_told rules t)

-- a frame with this claim lies within the limits, if there are any
abbrev pub IsWithin : Option Limits → List Symbol → Claim → Type 0
IsWithin None s c = ⊤
IsWithin (Some limits) s c = (quality_in s < limits.poor_from) × (limits.not_before ≤ c.at.day)
