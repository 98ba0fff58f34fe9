-- What the numbers of a tally say: what they tell, and of which symbols they are.
-- Source: docs/READER.md; this project's profile.
use Rattle.std.specs.Prelude.{ℕ, ◌+◌, ◌*◌, ◌==◌, nat_lt, if◌then◌else◌, List, Option, Some, None}
use Rattle.irig_frame.specs.declared.symbol.Symbol.{Symbol}
use Rattle.irig_frame.specs.declared.fault.FrameFault.{FrameFault}
use Rattle.irig_frame.specs.declared.fault.FrameFault.TheVariants as frame_fault
use Rattle.irig_time.specs.declared.rules.Rules.{Rules}
use Rattle.irig_port.specs.declared.told.PortFault.TheVariants as fault
use Rattle.irig_port.specs.declared.told.Told.{Told}
use Rattle.irig_port.specs.declared.told.Told.TheVariants as tells
use Rattle.irig_port.specs.declared.tally.FirstFault.{FirstFault}
use Rattle.irig_port.specs.declared.tally.Tally.{Tally}
use Rattle.irig_port.specs.Bits.{bits_at, frame_from, IsOf}

-- the fault of the lowest wrong element, if one is wrong
abbrev pub fault_in : FirstFault → Option FrameFault
fault_in f =
    if f.kind == 0 then None
    else (if f.kind == 3 then Some (frame_fault.Pulse f.element)
    else Some (frame_fault.Marker f.element))

-- what these numbers tell
abbrev pub tally_told : Rules → Tally → Told
tally_told rules t =
    if t.count == 0 then tells.Silence
    else (if nat_lt t.count 100 then tells.Fault (fault.Frame (frame_fault.Short t.count))
    else (if nat_lt 100 t.count then tells.Fault (fault.Frame frame_fault.Long)
    else frame_from rules (fault_in t.wrong) t.time t.control))

-- the number of the control bits, without the marker between them
abbrev pub control_word_in : Tally → ℕ
control_word_in t = bits_at t.control 0 9 + 512 * bits_at t.control 10 9

-- the numbers are those of these symbols
abbrev pub IsTallyOf : Tally → List Symbol → Type 0
IsTallyOf t s = IsOf t.count t.time t.control (fault_in t.wrong) s
