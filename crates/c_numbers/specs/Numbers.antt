-- The numbers by which C names what the libraries have names for.
-- Source: docs/FAULTS.md for faults; the others are this library's own.
use Rattle.std.specs.Prelude.{ℕ, ◌+◌, ◌*◌, ◌==◌, if◌then◌else◌, Option, Some, None, Result, Ok, Err}
use Rattle.irig_frame.specs.declared.symbol.Symbol.{Symbol}
use Rattle.irig_frame.specs.declared.symbol.Symbol.TheVariants.{Zero, One, Marker, Bad}
use Rattle.irig_frame.specs.declared.layout.Field.{Field}
use Rattle.irig_frame.specs.declared.layout.Field.TheVariants as field
use Rattle.irig_frame.specs.declared.coded.Coded.{Coded}
use Rattle.irig_frame.specs.declared.fault.FrameFault.{FrameFault}
use Rattle.irig_control.specs.declared.parity.Parity.{Parity}
use Rattle.irig_control.specs.declared.parity.Parity.TheVariants as parity
use Rattle.irig_time.specs.declared.rules.Sense.{Sense}
use Rattle.irig_time.specs.declared.rules.Sense.TheVariants as sense
use Rattle.irig_time.specs.declared.mark.Mark.{Mark}
use Rattle.irig_time.specs.declared.mark.Mark.TheVariants as mark
use Rattle.irig_time.specs.declared.claim.Claim.{Claim}
use Rattle.irig_time.specs.declared.claim.TimeFault.{TimeFault}
use Rattle.irig_time.specs.declared.table.TableFault.{TableFault}
use Rattle.irig_port.specs.declared.told.PortFault.{PortFault}
use Rattle.irig_port.specs.declared.told.PortFault.TheVariants.{Frame, Time}
use Rattle.text_faults.specs.declared.port_fault.FaultDetail.{FaultDetail}
use Rattle.text_faults.specs.declared.port_fault.FaultDetail.TheVariants as detail
use Rattle.text_faults.specs.PortFaults.{number_of, detail_of}
use Rattle.text_faults.specs.Refusals as refusals
use Rattle.c_numbers.specs.declared.claim.IrigClaim.{IrigClaim}

-- the symbol with a number
abbrev pub symbol_in : ℕ → Symbol
symbol_in n = if n == 0 then Zero else (if n == 1 then One else (if n == 2 then Marker else Bad))

-- the number of a symbol
abbrev pub number_of_symbol : Symbol → ℕ
number_of_symbol Zero = 0
number_of_symbol One = 1
number_of_symbol Marker = 2
number_of_symbol Bad = 3

-- the number of a field
abbrev pub number_of_field : Field → ℕ
number_of_field field.Second = 0
number_of_field field.Minute = 1
number_of_field field.Hour = 2
number_of_field field.Day = 3
number_of_field field.Year = 4

-- what a fault says beside its name, as a number
abbrev pub number_of_detail : Option FaultDetail → ℕ
number_of_detail None = 0
number_of_detail (Some (detail.Symbols count)) = count
number_of_detail (Some (detail.Element element)) = element
number_of_detail (Some (detail.Field f)) = number_of_field f

-- the number of a fault by which users know it, and 256 times what it says beside
abbrev pub code_of : PortFault → ℕ
code_of fault = number_of fault + 256 * number_of_detail (detail_of fault)

-- 0, or the number of the fault of a frame
abbrev pub code_of_frame : Result Coded FrameFault → ℕ
code_of_frame (Ok _) = 0
code_of_frame (Err fault) = code_of (Frame fault)

-- 0, or the number of the fault of a time
abbrev pub code_of_claim : Result Claim TimeFault → ℕ
code_of_claim (Ok _) = 0
code_of_claim (Err fault) = code_of (Time fault)

-- the number of the fault of a leap table
abbrev pub number_of_table_fault : TableFault → ℕ
number_of_table_fault fault = refusals.number_of (refusals.of_table fault)

-- the parity with a number
abbrev pub parity_in : ℕ → Parity
parity_in n = if n == 0 then parity.Even else parity.Odd

-- what becomes of the offset
abbrev pub sense_in : ℕ → Sense
sense_in n = if n == 0 then sense.Add else sense.Subtract

-- what is said of a leap second
abbrev pub mark_in : ℕ → Mark
mark_in n =
    if n == 0 then mark.Unspoken
    else (if n == 1 then mark.NoLeap else (if n == 2 then mark.Insert else mark.Delete))

-- the number for it
abbrev pub number_of_mark : Mark → ℕ
number_of_mark mark.Unspoken = 0
number_of_mark mark.NoLeap = 1
number_of_mark mark.Insert = 2
number_of_mark mark.Delete = 3

-- the claim that C holds
abbrev pub claim_in : IrigClaim → Claim
claim_in c = record { at = c.at; mark = mark_in c.mark }

-- a claim as C is given it
abbrev pub claim_for : Claim → IrigClaim
claim_for c = record { at = c.at; mark = number_of_mark c.mark }
