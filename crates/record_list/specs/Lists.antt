-- What a reader of a list still has to say.
-- Source: this project's profile.
use Rattle.std.specs.Prelude.{◌≡◌, ℕ, List, [], ◌∷◌, ◌++◌, Option, Some, None, Result, Ok, Err, ⊤}
use Rattle.record_levels.specs.declared.levels.Levels.{Levels}
use Rattle.record_text.specs.Lines.{Line, with_line}
use Rattle.record_list.specs.declared.changes.Changes.{Changes}
use Rattle.record_list.specs.declared.changes.Last.{Last}
use Rattle.record_list.specs.declared.changes.Last.TheVariants as last
use Rattle.record_list.specs.declared.now.Fault.{Fault}
use Rattle.record_list.specs.declared.now.ListFault.{ListFault}
use Rattle.record_list.specs.declared.now.ListFault.TheVariants as fault
use Rattle.record_list.specs.declared.now.Now.{Now}
use Rattle.record_list.specs.declared.pulse.Pulse.{Pulse}
use Rattle.record_list.specs.Changes.{Reading, Said, Step, said, said_from}
use Rattle.record_list.specs.Changes.Said.{Change, Ends, Refused}
use Rattle.record_list.specs.Changes.Step.{Goes, Refuses}

-- what was refused stays so
abbrev pub unless_refused : Option Fault → List Said → List Said
unless_refused None said = said
unless_refused (Some fault) said = Refused fault ∷ []

-- the line that a reader has, of that number
abbrev pub line_of : Changes → (number : ℕ) → Line
line_of changes number = record { text = changes.lines.text.items; number = number }

-- rows of these ports below names on that line
abbrev pub reading_by : (above : ℕ) → (ports : List ℕ) → Reading
reading_by above ports = record { above = above; ports = ports }

-- what a reader reads of rows
abbrev pub reading_of : Changes → Reading
reading_of changes = reading_by changes.above changes.chosen.ports.items

-- what these lines say to a reader as it stands
abbrev pub said_of : Changes → List Line → List Said
said_of changes lines =
    unless_refused changes.refusal (said_from (reading_of changes) changes.pulses.items changes.here lines)

-- the same of the bytes that follow, up to the end of the text, where a line of its own may have ended
abbrev pub to_come_by : (ended : Option ℕ) → Changes → (more : List ℕ) → List Said
to_come_by ended changes more = said_of changes (with_line ended changes.lines more)

-- all that a reader has to say yet, if these are the bytes that follow, up to the end of the text
abbrev pub to_come : Changes → (more : List ℕ) → List Said
to_come changes more = to_come_by None changes more

-- a reader that takes these bytes says these levels, if any, and is then the next one: so whatever follows
abbrev pub Leads : Changes → (taken : List ℕ) → Option Levels → Changes → Type 0
Leads changes taken levels next =
    (more : List ℕ) → to_come changes (taken ++ more) ≡ said levels ++ to_come next more

-- at the end of the text a reader says this, and then what is to come, unless that was the end
abbrev pub said_last : Last → (others : List Said) → List Said
said_last (last.Levels levels) others = Change levels ∷ others
said_last (last.Ends time) others = Ends time ∷ []

-- a fault is what is said; of memory nothing is
abbrev pub FaultSays : ListFault → List Said → Type 0
FaultSays fault.Memory said = ⊤
FaultSays (fault.Refused f) said = said ≡ Refused f ∷ []

-- a line was heard as this step has it
abbrev pub HearsAs : Step → Result (Unit {0}) ListFault → List Pulse → Now → Type 0
HearsAs step (Ok done) pulses now = step ≡ Goes pulses now
HearsAs step (Err fault.Memory) pulses now = ⊤
HearsAs step (Err (fault.Refused f)) pulses now = step ≡ Refuses f

-- a call of a reader: the bytes that it took, the levels that it said, and the reader then
pub record Call : Type 0 where
  pub taken : List ℕ
  pub levels : Option Levels
  pub next : Changes

-- calls of a reader, one after another
abbrev pub AreCalls : Changes → List Call → Type 0
AreCalls changes [] = ⊤
AreCalls changes (call ∷ calls) = Leads changes call.taken call.levels call.next × AreCalls call.next calls

-- all the bytes that calls took
abbrev pub taken_by : List Call → List ℕ
taken_by [] = []
taken_by (call ∷ calls) = call.taken ++ taken_by calls

-- all that they said
abbrev pub said_in : List Call → List Said
said_in [] = []
said_in (call ∷ calls) = said call.levels ++ said_in calls

-- the reader after them
abbrev pub reader_after : Changes → List Call → Changes
reader_after changes [] = changes
reader_after changes (call ∷ calls) = reader_after call.next calls
