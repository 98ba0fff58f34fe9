-- The refusals of a line: their numbers and names, and which fault of a part is which.
-- Source: docs/FAULTS.md; this project's profile.
use Rattle.std.specs.Prelude.{◌≡◌, ℕ, ◌==◌, Bool, if◌then◌else◌, List, codes, Option, Some, None, Result, Ok, Err, ⊤}
use Rattle.irig_time.specs.declared.table.TableFault.{TableFault}
use Rattle.irig_time.specs.declared.table.TableFault.TheVariants as table
use Rattle.irig_time.specs.declared.timeline.TimelineFault.{TimelineFault}
use Rattle.irig_time.specs.declared.timeline.TimelineFault.TheVariants as timeline
use Rattle.irig_gen.specs.declared.generator.GenRefusal.{GenRefusal}
use Rattle.irig_gen.specs.declared.generator.GenRefusal.TheVariants as generator
use Rattle.text_faults.specs.declared.refusal.Refusal.{Refusal}
use Rattle.text_faults.specs.declared.refusal.Refusal.TheVariants.{BadStart, LeapNotMonthEnd, LeapTwice, OutOfYears, Offset, Changes, NoSuchReader, NoSuchGenerator, FutureReplay, EndOfYears, TooLong, Json, Shape, Value, Version, Names, NoPlant, TooManyLines, TableEnd, TableLong, TableDay, TableTwice, Drift, BeforeStart}
use Rattle.text_faults.specs.declared.refusal.LineFault.{LineFault}
use Rattle.text_faults.specs.declared.refusal.LineFault.TheVariants.{Refused, Memory}

-- ---- numbers and names

-- the number by which users know a refusal
abbrev pub number_of : Refusal → ℕ
number_of BadStart = 11
number_of LeapNotMonthEnd = 12
number_of LeapTwice = 13
number_of OutOfYears = 14
number_of Offset = 15
number_of Changes = 16
number_of NoSuchReader = 19
number_of NoSuchGenerator = 20
number_of FutureReplay = 21
number_of EndOfYears = 22
number_of TooLong = 23
number_of Json = 24
number_of Shape = 25
number_of Value = 26
number_of Version = 27
number_of Names = 28
number_of NoPlant = 29
number_of TooManyLines = 30
number_of TableEnd = 31
number_of TableLong = 32
number_of TableDay = 33
number_of TableTwice = 34
number_of Drift = 35
number_of BeforeStart = 37

-- its name
abbrev pub name_of : Refusal → List ℕ
name_of BadStart = codes "BadStart"
name_of LeapNotMonthEnd = codes "LeapNotMonthEnd"
name_of LeapTwice = codes "LeapTwice"
name_of OutOfYears = codes "OutOfYears"
name_of Offset = codes "Offset"
name_of Changes = codes "Changes"
name_of NoSuchReader = codes "NoSuchReader"
name_of NoSuchGenerator = codes "NoSuchGenerator"
name_of FutureReplay = codes "FutureReplay"
name_of EndOfYears = codes "EndOfYears"
name_of TooLong = codes "TooLong"
name_of Json = codes "Json"
name_of Shape = codes "Shape"
name_of Value = codes "Value"
name_of Version = codes "Version"
name_of Names = codes "Names"
name_of NoPlant = codes "NoPlant"
name_of TooManyLines = codes "TooManyLines"
name_of TableEnd = codes "TableEnd"
name_of TableLong = codes "TableLong"
name_of TableDay = codes "TableDay"
name_of TableTwice = codes "TableTwice"
name_of Drift = codes "Drift"
name_of BeforeStart = codes "BeforeStart"

-- ---- the faults of the parts of a plant

-- of a table of leaps
abbrev pub of_table : TableFault → Refusal
of_table table.TableEnd = TableEnd
of_table table.TableLong = TableLong
of_table table.TableDay = TableDay
of_table table.TableTwice = TableTwice

-- of a timeline
abbrev pub of_timeline : TimelineFault → LineFault
of_timeline timeline.BadStart = Refused BadStart
of_timeline timeline.LeapNotMonthEnd = Refused LeapNotMonthEnd
of_timeline timeline.LeapTwice = Refused LeapTwice
of_timeline timeline.OutOfYears = Refused OutOfYears
of_timeline timeline.Memory = Memory

-- of a generator
abbrev pub of_generator : GenRefusal → LineFault
of_generator generator.Offset = Refused Offset
of_generator generator.Changes = Refused Changes
of_generator generator.Memory = Memory

-- ---- steps that may refuse

infixl 10 ◌>>=◌
-- the next step, if this one isn't refused
abbrev pub ◌>>=◌ :
    {A B : Type 0} → Result A Refusal → (A → Result B Refusal) → Result B Refusal
(Ok x) >>= f = f x
(Err e) >>= f = Err e

-- this refusal, if there is no value
abbrev pub or_else : {A : Type 0} → Refusal → Option A → Result A Refusal
or_else e None = Err e
or_else e (Some x) = Ok x

-- this refusal, if this doesn't hold
abbrev pub holds_or : Refusal → Bool → Result (Unit {0}) Refusal
holds_or e b = if b then Ok tt else Err e

-- ---- answers that may also be that there is no memory

-- the answer, seen by `view`, is what the definition says, unless there was no memory
abbrev pub IsUnlessMemory :
    {A B : Type 0} → (A → B) → Result B Refusal → Result A LineFault → Type 0
IsUnlessMemory view said (Ok x) = said ≡ Ok (view x)
IsUnlessMemory view said (Err (Refused k)) = said ≡ Err k
IsUnlessMemory view said (Err Memory) = ⊤

-- the same of a value that stands in a line: if none was found, the line is refused as Value
abbrev pub FoundUnlessMemory :
    {A B : Type 0} → (A → B) → Option B → Result A LineFault → Type 0
FoundUnlessMemory view found result = IsUnlessMemory view (or_else Value found) result
