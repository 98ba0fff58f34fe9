-- What a reader of a table still has to say.
-- Source: this project's profile.
use Rattle.std.specs.Prelude.{◌≡◌, ℕ, List, [], ◌∷◌, ◌++◌, length, Option, Some, None, ⊤}
use Rattle.record_levels.specs.declared.levels.Levels.{Levels}
use Rattle.record_text.specs.Lines.{Line, lines_of, lines_on, with_line}
use Rattle.record_table.specs.declared.clock.Clock.{Clock}
use Rattle.record_table.specs.declared.now.Fault.{Fault}
use Rattle.record_table.specs.declared.head.Head.{Head}
use Rattle.record_table.specs.declared.head.HeadFault.{HeadFault}
use Rattle.record_table.specs.declared.head.HeadFault.TheVariants.{Memory, Unended}
use Rattle.record_table.specs.declared.head.HeadFault.TheVariants.{Refused as Wrong}
use Rattle.record_table.specs.declared.head.Stage.{Stage}
use Rattle.record_table.specs.declared.head.Stage.TheVariants as stage
use Rattle.record_table.specs.declared.changes.Changes.{Changes}
use Rattle.record_table.specs.Heads.{HeadEnd, HeadValue, head_end, head_from, top, value_of}
use Rattle.record_cells.specs.declared.volts.Threshold.{Threshold}
use Rattle.record_table.specs.Changes.{Reading, Said, changes_of, said, said_from}
use Rattle.record_table.specs.Changes.Said.{Refused}

-- what was refused stays so
abbrev pub unless_refused : Option Fault → List Said → List Said
unless_refused None said = said
unless_refused (Some fault) said = Refused fault ∷ []

-- the line that a reader has, of that number
abbrev pub line_of : Changes → (number : ℕ) → Line
line_of changes number = record { text = changes.lines.text.items; number = number }

-- what a reader reads of rows
abbrev pub reading_of : Changes → Reading
reading_of changes =
    record { plan = changes.plan; above = changes.above; chosen = changes.chosen.places.items }

-- what these lines say to a reader as it stands
abbrev pub said_of : Changes → List Line → List Said
said_of changes lines = unless_refused changes.refusal (said_from (reading_of changes) changes.here lines)

-- the same of the bytes that follow, up to the end of the text, where a line of its own may have ended
abbrev pub to_come_by : (ended : Option ℕ) → Changes → (more : List ℕ) → List Said
to_come_by ended changes more = said_of changes (with_line ended changes.lines more)

-- all that a reader has to say yet, if these are the bytes that follow, up to the end of the text
abbrev pub to_come : Changes → (more : List ℕ) → List Said
to_come changes more = to_come_by None changes more

-- a reader that takes these bytes says these levels, if any, and is then the next one: so whatever follows
abbrev pub Leads : Changes → (taken : List ℕ) → Option Levels → Changes → Type 0
Leads changes taken levels next =
    (more : List ℕ) → to_come changes (taken ++ more) ≡ said levels ++ to_come next more

-- a call of a reader: the bytes that it took, the levels that it said, and the reader then
pub record Call : Type 0 where
  pub taken : List ℕ
  pub levels : Option Levels
  pub next : Changes

-- calls of a reader, one after another
abbrev pub AreCalls : Changes → List Call → Type 0
AreCalls changes [] = ⊤
AreCalls changes (call ∷ calls) = Leads changes call.taken call.levels call.next × AreCalls call.next calls

-- all the bytes that calls took
abbrev pub taken_by : List Call → List ℕ
taken_by [] = []
taken_by (call ∷ calls) = call.taken ++ taken_by calls

-- all that they said
abbrev pub said_in : List Call → List Said
said_in [] = []
said_in (call ∷ calls) = said call.levels ++ said_in calls

-- the reader after them
abbrev pub reader_after : Changes → List Call → Changes
reader_after changes [] = changes
reader_after changes (call ∷ calls) = reader_after call.next calls

-- a reader of a head that takes these bytes is then the next one: so whatever follows
abbrev pub LeadsOn : Head → (taken : List ℕ) → Head → Type 0
LeadsOn head taken next = (more : List ℕ) → head_end head (taken ++ more) ≡ head_end next more

-- a call of a reader of a head
pub record HeadCall : Type 0 where
  pub taken : List ℕ
  pub next : Head

-- calls of a reader of a head, one after another
abbrev pub AreHeadCalls : Head → List HeadCall → Type 0
AreHeadCalls head [] = ⊤
AreHeadCalls head (call ∷ calls) = LeadsOn head call.taken call.next × AreHeadCalls call.next calls

-- all the bytes that they took
abbrev pub head_taken_by : List HeadCall → List ℕ
head_taken_by [] = []
head_taken_by (call ∷ calls) = call.taken ++ head_taken_by calls

-- the reader of the head after them
abbrev pub head_after : Head → List HeadCall → Head
head_after head [] = head
head_after head (call ∷ calls) = head_after call.next calls

-- what is read of rows below such a head, by a threshold or by levels, of the names at these places
abbrev pub reading_by : Clock → Option Threshold → HeadValue → (places : List ℕ) → Reading
reading_by clock threshold head places = record {
  plan = record { clock = clock; threshold = threshold; columns = length head.names };
  above = head.above;
  chosen = places;
}

-- what stands below a head that was read so far
abbrev pub below_by : Stage → Option Threshold → (places : List ℕ) → HeadEnd → Option (List Said)
below_by stage.Above threshold places end = None
below_by (stage.Below clock) threshold places end =
    Some (changes_of (reading_by clock threshold end.head places) end.lines)
below_by (stage.Refused refusal) threshold places end = None

-- what stands below a head, if it is over and was not refused
abbrev pub below : Option Threshold → (places : List ℕ) → HeadEnd → Option (List Said)
below threshold places end = below_by end.head.stage threshold places end

-- what a table says of the channels at these places among its names: of levels, or of voltages by a threshold
abbrev pub table_of : Option Threshold → (places : List ℕ) → (text : List ℕ) → Option (List Said)
table_of threshold places text = below threshold places (head_from top (lines_of text))

-- this is a reader of what follows that head, by a threshold or by levels, of the names at these places
abbrev pub IsBelow : Head → Option Threshold → (places : List ℕ) → Clock → Changes → Type 0
IsBelow head threshold places clock changes = (more : List ℕ) → to_come changes more
    ≡ changes_of (reading_by clock threshold (value_of head) places) (lines_on head.lines more)

-- nothing of a head was read
abbrev pub IsAtTop : Head → Type 0
IsAtTop head = (value_of head ≡ top) × ((more : List ℕ) → lines_on head.lines more ≡ lines_of more)

-- a head is over, and was not refused
abbrev pub IsReady : Head → Type 0
IsReady head = (clock : Clock) × (head.stage ≡ stage.Below clock)

-- why nothing is read below a head that was read so far
abbrev pub fault_of : Stage → Option HeadFault
fault_of stage.Above = Some Unended
fault_of (stage.Below clock) = None
fault_of (stage.Refused refusal) = Some (Wrong refusal)

-- why nothing is read below a head
abbrev pub HeadFaultFits : Head → HeadFault → Type 0
HeadFaultFits head Memory = IsReady head
HeadFaultFits head Unended = head.stage ≡ stage.Above
HeadFaultFits head (Wrong refusal) = head.stage ≡ stage.Refused refusal
