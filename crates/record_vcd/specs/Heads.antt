-- The head of a value change dump, word by word.
-- Source: IEEE 1364-2005, 18.2.3. That the first timescale counts, and of wires of one name the first, is this
-- project's profile.
use Rattle.std.specs.Prelude.{ℕ, if◌then◌else◌, List, [], ◌∷◌, ◌++◌, codes, Option, Some, None}
use Rattle.std.specs.Str.{bytes_eq}
use Rattle.record_text.specs.Words.{Word, with_ended}
use Rattle.record_vcd.specs.declared.unit.Unit.{Unit}
use Rattle.record_vcd.specs.declared.head.Head.{Head}
use Rattle.record_vcd.specs.declared.section.Section.{Section}
use Rattle.record_vcd.specs.declared.section.Section.TheVariants.{Between, Timescale, Var, Definitions, Other, Over}
use Rattle.record_vcd.specs.Sections.{WireValue, is_over, named, section_of, texts_of, unit_of, wire_of, wires_of}

-- a head: the section that is open and its words so far, the wires and the unit that were named
pub record HeadValue : Type 0 where
  pub section : Section
  pub texts : List (List ℕ)
  pub wires : List WireValue
  pub unit : Option Unit

-- what a reader has of a head
abbrev pub value_of : Head → HeadValue
value_of head = record {
  section = head.section;
  texts = texts_of head.texts.items;
  wires = wires_of head.wires.items;
  unit = head.unit;
}

-- of which nothing was read
abbrev pub top : HeadValue
top = record { section = Between; texts = []; wires = []; unit = None }

-- of two units the first that was named counts
abbrev pub first_of : Option Unit → Option Unit → Option Unit
first_of (Some unit) other = Some unit
first_of None other = other

-- a section ends
abbrev pub closed_by : Section → HeadValue → HeadValue
closed_by Timescale head = record head { section = Between; unit = first_of head.unit (unit_of head.texts) }
closed_by Var head = record head { section = Between; wires = named head.wires (wire_of head.texts) }
closed_by Definitions head = record head { section = Over }
closed_by Between head = record head { section = Between }
closed_by Other head = record head { section = Between }
closed_by Over head = head

-- the section that is open ends
abbrev pub closed : HeadValue → HeadValue
closed head = closed_by head.section head

-- a word that ends no section opens one, or is of the one that is open
abbrev pub taken_by : Section → (word : List ℕ) → HeadValue → HeadValue
taken_by Between word head = record head { section = section_of word; texts = [] }
taken_by Timescale word head = record head { texts = head.texts ++ word ∷ [] }
taken_by Var word head = record head { texts = head.texts ++ word ∷ [] }
taken_by Definitions word head = head
taken_by Other word head = head
taken_by Over word head = head

-- what a word makes of a head
abbrev pub step : HeadValue → (word : List ℕ) → HeadValue
step head word = if bytes_eq word (codes "$end") then closed head else taken_by head.section word head

-- a head as far as a text has it, and the words that are left when it is over
pub record HeadEnd : Type 0 where
  pub head : HeadValue
  pub words : List Word

-- what words make of a head, up to its end
abbrev pub head_from : HeadValue → List Word → HeadEnd
head_from head [] = record { head = head; words = [] }
head_from head (word ∷ words) =
    if is_over head.section then record { head = head; words = word ∷ words }
    else head_from (step head word.text) words

-- what a reader's head will be, if these bytes follow, where a word of its own may have ended
abbrev pub head_end_by : (ended : Option ℕ) → Head → (more : List ℕ) → HeadEnd
head_end_by ended head more = head_from (value_of head) (with_ended ended head.words more)

-- what a reader's head will be, if these are the bytes that follow, up to the end of the text
abbrev pub head_end : Head → (more : List ℕ) → HeadEnd
head_end head more = head_end_by None head more
