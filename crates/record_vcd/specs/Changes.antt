-- The levels that a value change dump says, one after another.
-- Source: IEEE 1364-2005, 18.2.1 and 18.2.2; that there is one for each time is this project's profile.
use Rattle.std.specs.Prelude.{ℕ, ◌-◌, ◌^◌, Bool, true, false, ◌&&◌, if◌then◌else◌, List, [], ◌∷◌, ◌++◌, Option, Some, None, nat_lt, bit_and, bit_or}
use Rattle.record_levels.specs.declared.levels.Levels.{Levels}
use Rattle.record_levels.specs.declared.limits.TimeFault.{TimeFault}
use Rattle.record_levels.specs.Limits.{time_fault}
use Rattle.record_text.specs.Words.{Word}
use Rattle.record_vcd.specs.declared.unit.Unit.{Unit}
use Rattle.record_vcd.specs.declared.meaning.Meaning.{Meaning}
use Rattle.record_vcd.specs.declared.meaning.Meaning.TheVariants.{BadTime, Level, Nothing}
use Rattle.record_vcd.specs.declared.meaning.Meaning.TheVariants.{Time as TimeSaid}
use Rattle.record_vcd.specs.declared.meaning.Skip.TheVariants.{Nothing as NoSkip}
use Rattle.record_vcd.specs.declared.now.Fault.{Fault}
use Rattle.record_vcd.specs.declared.now.Reason.TheVariants.{Time}
use Rattle.record_vcd.specs.declared.now.Reason.TheVariants.{BadTime as NoTime}
use Rattle.record_vcd.specs.declared.now.Now.{Now}
use Rattle.record_vcd.specs.declared.now.Step.{Step}
use Rattle.record_vcd.specs.declared.now.Step.TheVariants.{Goes, Says, Refuses}
use Rattle.record_vcd.specs.Meanings.{meaning, outside}

-- what a dump says: levels, why it is refused, or the time at which it ends
pub data Said : Type 0 where
  Change : Levels → Said
  Refused : Fault → Said
  Ends : ℕ → Said

-- all low, at the time 0
abbrev pub start : Now
start = record { time_ns = 0; high = 0; is_due = false; levels_ns = None }

-- a line's bit is set or cleared
abbrev pub with_level : (high place : ℕ) → Bool → ℕ
with_level high place is_high = if is_high then bit_or high (2 ^ place) else bit_and high (255 - 2 ^ place)

-- the levels as they stand, with their time
abbrev pub levels_of : Now → Levels
levels_of now = record { time_ns = now.time_ns; high = now.high }

-- the levels of this time, if one was said
abbrev pub due : Now → Option Levels
due now = if now.is_due then Some (levels_of now) else None

-- a later time says the levels of the time before, if one was said
abbrev pub gone_on : Now → (next : ℕ) → Step
gone_on now next =
    if now.is_due && nat_lt now.time_ns next
    then Says (levels_of now) (record now { time_ns = next; is_due = false })
    else Goes (record now { time_ns = next })

-- a time refuses the dump by its fault; without one it goes on there
abbrev pub time_by : Now → (line : ℕ) → Option TimeFault → (next : ℕ) → Step
time_by now line (Some fault) next = Refuses (record { line = line; reason = Time fault })
time_by now line None next = gone_on now next

-- what a word on a line makes of the levels
abbrev pub heard : Now → (line : ℕ) → Meaning → Step
heard now line (TimeSaid next) = time_by now line (time_fault now.time_ns now.levels_ns next) next
heard now line BadTime = Refuses (record { line = line; reason = NoTime })
heard now line (Level place high) = Goes
    (record now { high = with_level now.high place high; is_due = true; levels_ns = Some now.time_ns })
heard now line Nothing = Goes now

-- levels, if there are some
abbrev pub said : Option Levels → List Said
said None = []
said (Some levels) = Change levels ∷ []

-- what a step says, and then what is said from there on, unless it refuses
abbrev pub said_by : Step → (others : Now → List Said) → List Said
said_by (Goes now) others = others now
said_by (Says levels now) others = Change levels ∷ others now
said_by (Refuses fault) others = Refused fault ∷ []

-- what words say
abbrev pub said_from : (chosen : List (List ℕ)) → Unit → Now → List Word → List Said
said_from chosen unit now [] = said (due now) ++ Ends now.time_ns ∷ []
said_from chosen unit now (word ∷ words) =
    said_by (heard now word.line (meaning chosen unit word.text)) (λ next. said_from chosen unit next words)

-- what the words below a head say of the wires that have these codes
abbrev pub changes_of : (chosen : List (List ℕ)) → Unit → List Word → List Said
changes_of chosen unit words = said_from chosen unit start (outside NoSkip words)
