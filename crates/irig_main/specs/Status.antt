-- The exit statuses.
-- Source: docs/OUTPUT.md, the exit status.
use Rattle.std.specs.Prelude.{◌≡◌, ℕ, ◌≤◌, ◌⊎◌, Result, Ok, Err}
use Rattle.report_run.specs.declared.fault.SceneFault.{SceneFault}
use Rattle.report_run.specs.declared.fault.SceneFault.TheVariants as scene
use Rattle.report_judge.specs.declared.fault.JudgeFault.{JudgeFault}
use Rattle.report_judge.specs.declared.fault.JudgeFault.TheVariants as judging
use Rattle.text_frame.specs.declared.reading.ReadingFault.{ReadingFault}
use Rattle.text_frame.specs.declared.reading.ReadingFault.TheVariants as reading
use Rattle.irig_main.specs.declared.fault.Fault.{Fault}
use Rattle.irig_main.specs.declared.fault.Fault.TheVariants.{CommandLine, NotText, BadTime, BadFrameText, Refused, Recording, Samples, Undecided, Open, OpenSamples, Read, ReadSamples, Write, Memory}

-- a fault of the words is 2, a refused scenario or recording 3, a fault of the input 4, of the output 5,
-- of the memory 6; that a recording is undecided is 7
abbrev pub status_of : Fault → ℕ
status_of (CommandLine text) = 2
status_of NotText = 2
status_of BadTime = 2
status_of BadFrameText = 2
status_of Refused = 3
status_of (Recording fault) = 3
status_of Samples = 2
status_of Undecided = 7
status_of (Open error) = 4
status_of (OpenSamples error) = 4
status_of Read = 4
status_of ReadSamples = 4
status_of Write = 5
status_of Memory = 6

-- the fault of the program by which the run of a scenario ended
abbrev pub fault_of : SceneFault → Fault
fault_of (scene.Refused line refusal) = Refused
fault_of scene.Read = Read
fault_of scene.Write = Write
fault_of scene.Memory = Memory

-- the fault of the program by which the reading of a frame's text ended
abbrev pub fault_of_reading : ReadingFault → Fault
fault_of_reading reading.BadFrameText = BadFrameText
fault_of_reading reading.Memory = Memory

-- the fault of the program by which the reading of a recording ended
abbrev pub fault_of_judging : JudgeFault → Fault
fault_of_judging judging.Empty = Recording judging.Empty
fault_of_judging (judging.Head fault) = Recording (judging.Head fault)
fault_of_judging (judging.Channels fault names) = Recording (judging.Channels fault names)
fault_of_judging (judging.Dump fault) = Recording (judging.Dump fault)
fault_of_judging (judging.Title fault) = Recording (judging.Title fault)
fault_of_judging (judging.Columns fault names) = Recording (judging.Columns fault names)
fault_of_judging (judging.Table fault) = Recording (judging.Table fault)
fault_of_judging (judging.Config fault) = Recording (judging.Config fault)
fault_of_judging (judging.Digitals fault names) = Recording (judging.Digitals fault names)
fault_of_judging (judging.Sample fault) = Recording (judging.Sample fault)
fault_of_judging (judging.NoThreshold place name unit) = Recording (judging.NoThreshold place name unit)
fault_of_judging judging.NoSamples = Recording judging.NoSamples
fault_of_judging judging.LongLine = Recording judging.LongLine
fault_of_judging judging.Endless = Recording judging.Endless
fault_of_judging judging.Read = Read
fault_of_judging judging.ReadSamples = ReadSamples
fault_of_judging judging.Memory = Memory

-- how the run of a scenario ended, without its outcome
abbrev pub ended : {O : Type 0} → Result O SceneFault → Result (Unit {0}) SceneFault
ended (Ok outcome) = Ok _
ended (Err fault) = Err fault

-- what that leaves for the program
abbrev pub result_of : Result (Unit {0}) SceneFault → Result (Unit {0}) Fault
result_of (Ok done) = Ok _
result_of (Err fault) = Err (fault_of fault)

-- what was done is 0
abbrev pub status_of_answer : Result (Unit {0}) Fault → ℕ
status_of_answer (Ok done) = 0
status_of_answer (Err fault) = status_of fault

-- 0 says that all was done; 1 is no status of the program
abbrev pub IsStatus : ℕ → Type 0
IsStatus n = (n ≡ 0) ⊎ ((2 ≤ n) × (n ≤ 7))
