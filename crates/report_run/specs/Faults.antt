-- Which faults a step of a run can have, and what it wrote before them.
use Rattle.std.specs.Prelude.{◌≡◌, ℕ, List, Result, Ok, Err, ⊤, Bool, true, false}
use Rattle.std.specs.Io.KnownBytes.{Appends}
use Rattle.irig_device.specs.Watched.{AppendsPart}
use Rattle.irig_device.specs.Lines.{Bytes}
use Rattle.report_run.specs.declared.fault.SceneFault.{SceneFault}
use Rattle.report_run.specs.declared.fault.SceneFault.TheVariants.{Refused, Read, Write, Memory}
use Rattle.report_run.specs.declared.stop.Failure.{Failure}
use Rattle.report_run.specs.declared.stop.Failure.TheVariants as failure
use Rattle.report_run.specs.declared.stop.Stop.{Stop}
use Rattle.report_run.specs.declared.stop.Stop.TheVariants as stop
use Rattle.text_faults.specs.declared.refusal.Refusal.{Refusal}
use Rattle.report_log.specs.Text.{refusal_text}
use Rattle.text_faults.specs.declared.refusal.LineFault.{LineFault}
use Rattle.text_faults.specs.declared.refusal.LineFault.TheVariants as line_fault

-- the input failed, or there was no memory
abbrev pub IsFaultOfReading : SceneFault → Type 0
IsFaultOfReading (Refused line refusal) = ⊥
IsFaultOfReading Read = ⊤
IsFaultOfReading Write = ⊥
IsFaultOfReading Memory = ⊤

-- the fault of a run in which this failed
abbrev pub fault_of : Failure → SceneFault
fault_of failure.Write = Write
fault_of failure.Memory = Memory

-- why a line that gives nothing ends the run
abbrev pub stop_of : LineFault → Stop
stop_of (line_fault.Refused refusal) = stop.Refused refusal
stop_of line_fault.Memory = stop.Failed failure.Memory

-- whether the output failed
abbrev pub is_of_output : Failure → Bool
is_of_output failure.Write = true
is_of_output failure.Memory = false

-- whether the answer of a write says so
abbrev pub failed_write : {A : Type 0} → Result A Failure → Bool
failed_write (Ok x) = false
failed_write (Err f) = is_of_output f

-- whether that of a line says so
abbrev pub stopped_write : {A : Type 0} → Result A Stop → Bool
stopped_write (Ok x) = false
stopped_write (Err (stop.Refused refusal)) = false
stopped_write (Err (stop.Failed f)) = is_of_output f

-- whether the output failed
abbrev pub is_write_fault : SceneFault → Bool
is_write_fault (Refused line refusal) = false
is_write_fault Read = false
is_write_fault Write = true
is_write_fault Memory = false

-- whether the answer says so
abbrev pub says_write : {A : Type 0} → Result A SceneFault → Bool
says_write (Ok x) = false
says_write (Err fault) = is_write_fault fault

-- whether the input failed
abbrev pub is_read_fault : SceneFault → Bool
is_read_fault (Refused line refusal) = false
is_read_fault Read = true
is_read_fault Write = false
is_read_fault Memory = false

-- whether the answer says so
abbrev pub says_read : {A : Type 0} → Result A SceneFault → Bool
says_read (Ok x) = false
says_read (Err fault) = is_read_fault fault

-- the text was written, or a prefix of it before something failed
abbrev pub WroteText : Result (Unit {0}) Failure → Bytes → Bytes → List ℕ → Type 0
WroteText (Ok done) old new text = Appends old new text
WroteText (Err f) old new text = AppendsPart old new text

-- the line was refused, and that was written
abbrev pub WroteRefusal : SceneFault → ℕ → Refusal → Bytes → Bytes → Type 0
WroteRefusal (Refused line refusal) n k old new =
    (line ≡ n) × (refusal ≡ k) × Appends old new (refusal_text n k)
WroteRefusal Read n k old new = ⊥
WroteRefusal Write n k old new = AppendsPart old new (refusal_text n k)
WroteRefusal Memory n k old new = AppendsPart old new (refusal_text n k)

-- if a line was refused, it is this one
abbrev pub IsOfLine : ℕ → SceneFault → Type 0
IsOfLine n (Refused line refusal) = line ≡ n
IsOfLine n Read = ⊤
IsOfLine n Write = ⊤
IsOfLine n Memory = ⊤
