-- What a reader of a value change dump still has to say.
-- Source: this project's profile.
use Rattle.std.specs.Prelude.{◌≡◌, ℕ, IsTrue, IsFalse, IsSome, if◌then◌else◌, List, [], ◌∷◌, ◌++◌, map, slice_index_or, Option, Some, None, ⊤}
use Rattle.record_levels.specs.declared.levels.Levels.{Levels}
use Rattle.record_text.specs.Words.{Word, with_ended, words_of, words_on}
use Rattle.record_vcd.specs.declared.unit.Unit.{Unit}
use Rattle.record_vcd.specs.declared.now.Fault.{Fault}
use Rattle.record_vcd.specs.declared.now.Now.{Now}
use Rattle.record_vcd.specs.declared.meaning.Skip.{Skip}
use Rattle.record_vcd.specs.declared.head.Head.{Head}
use Rattle.record_vcd.specs.declared.changes.HeadFault.{HeadFault}
use Rattle.record_vcd.specs.declared.changes.HeadFault.TheVariants.{Memory, Unended, NoTimescale}
use Rattle.record_vcd.specs.declared.changes.Changes.{Changes}
use Rattle.record_vcd.specs.Sections.{WireValue, is_over}
use Rattle.record_vcd.specs.Heads.{HeadEnd, head_end, head_from, top, value_of}
use Rattle.record_vcd.specs.Meanings.{codes_at, codes_of, outside}
use Rattle.record_vcd.specs.Changes.{Said, changes_of, said, said_from}
use Rattle.record_vcd.specs.Changes.Said.{Refused}

-- what was refused stays so
abbrev pub unless_refused : Option Fault → List Said → List Said
unless_refused None said = said
unless_refused (Some fault) said = Refused fault ∷ []

-- the word that a reader has, where it stands on that line
abbrev pub word_of : Changes → (line : ℕ) → Word
word_of changes line = record { text = changes.words.word.items; line = line }

-- what these words say to a reader of these wires, of which such are left out, if the levels stand so
abbrev pub words_say : Changes → Skip → Now → List Word → List Said
words_say changes skip now words =
    said_from (codes_of changes.chosen.wires.items) changes.unit now (outside skip words)

-- the same as the reader stands
abbrev pub said_of : Changes → List Word → List Said
said_of changes words = unless_refused changes.refusal (words_say changes changes.skip changes.here words)

-- the same of the bytes that follow, up to the end of the text, where a word of its own may have ended
abbrev pub to_come_by : (ended : Option ℕ) → Changes → (more : List ℕ) → List Said
to_come_by ended changes more = said_of changes (with_ended ended changes.words more)

-- all that a reader has to say yet, if these are the bytes that follow, up to the end of the text
abbrev pub to_come : Changes → (more : List ℕ) → List Said
to_come changes more = to_come_by None changes more

-- a reader that takes these bytes says these levels, if any, and is then the next one: so whatever follows
abbrev pub Leads : Changes → (taken : List ℕ) → Option Levels → Changes → Type 0
Leads changes taken levels next =
    (more : List ℕ) → to_come changes (taken ++ more) ≡ said levels ++ to_come next more

-- a call of a reader: the bytes that it took, the levels that it said, and the reader then
pub record Call : Type 0 where
  pub taken : List ℕ
  pub levels : Option Levels
  pub next : Changes

-- calls of a reader, one after another
abbrev pub AreCalls : Changes → List Call → Type 0
AreCalls changes [] = ⊤
AreCalls changes (call ∷ calls) = Leads changes call.taken call.levels call.next × AreCalls call.next calls

-- all the bytes that calls took
abbrev pub taken_by : List Call → List ℕ
taken_by [] = []
taken_by (call ∷ calls) = call.taken ++ taken_by calls

-- all that they said
abbrev pub said_in : List Call → List Said
said_in [] = []
said_in (call ∷ calls) = said call.levels ++ said_in calls

-- the reader after them
abbrev pub reader_after : Changes → List Call → Changes
reader_after changes [] = changes
reader_after changes (call ∷ calls) = reader_after call.next calls

-- a reader of a head that takes these bytes is then the next one: so whatever follows
abbrev pub LeadsOn : Head → (taken : List ℕ) → Head → Type 0
LeadsOn head taken next = (more : List ℕ) → head_end head (taken ++ more) ≡ head_end next more

-- a call of a reader of a head
pub record HeadCall : Type 0 where
  pub taken : List ℕ
  pub next : Head

-- calls of a reader of a head, one after another
abbrev pub AreHeadCalls : Head → List HeadCall → Type 0
AreHeadCalls head [] = ⊤
AreHeadCalls head (call ∷ calls) = LeadsOn head call.taken call.next × AreHeadCalls call.next calls

-- all the bytes that they took
abbrev pub head_taken_by : List HeadCall → List ℕ
head_taken_by [] = []
head_taken_by (call ∷ calls) = call.taken ++ head_taken_by calls

-- the reader of the head after them
abbrev pub head_after : Head → List HeadCall → Head
head_after head [] = head
head_after head (call ∷ calls) = head_after call.next calls

-- the codes of the wires at these places
abbrev pub codes_by : List WireValue → (places : List ℕ) → List (List ℕ)
codes_by wires places = map (λ place. slice_index_or (map (λ wire. wire.code) wires) place []) places

-- what stands below a head with this unit; nothing, if it has named none
abbrev pub below_by : Option Unit → (places : List ℕ) → HeadEnd → Option (List Said)
below_by (Some unit) places end = Some (changes_of (codes_by end.head.wires places) unit end.words)
below_by None places end = None

-- what stands below a head, if it is over and has named a unit
abbrev pub below : (places : List ℕ) → HeadEnd → Option (List Said)
below places end = if is_over end.head.section then below_by end.head.unit places end else None

-- what a dump says of the wires at these places of its head
abbrev pub dump_of : (places : List ℕ) → (text : List ℕ) → Option (List Said)
dump_of places text = below places (head_from top (words_of text))

-- this is a reader of what follows that head, of the wires at these places
abbrev pub IsBelow : Head → (places : List ℕ) → Unit → Changes → Type 0
IsBelow head places unit changes = (more : List ℕ) → to_come changes more
    ≡ changes_of (codes_at head.wires.items places) unit (words_on head.words more)

-- nothing of a head was read
abbrev pub IsAtTop : Head → Type 0
IsAtTop head = (value_of head ≡ top) × (head.words.line ≡ 1) × (head.words.word.items ≡ [])

-- a head is over, and has named a unit
abbrev pub IsReady : Head → Type 0
IsReady head = IsTrue (is_over head.section) × IsSome head.unit

-- why nothing is read below a head
abbrev pub HeadFaultFits : Head → HeadFault → Type 0
HeadFaultFits head Memory = IsReady head
HeadFaultFits head Unended = IsFalse (is_over head.section)
HeadFaultFits head NoTimescale = IsTrue (is_over head.section) × (head.unit ≡ None)
