-- What a reader of a single file has to find yet.
-- Source: this project's profile.
use Rattle.std.specs.Prelude.{◌≡◌, ℕ, List, [], ◌∷◌, ◌++◌, Option, Some, None, ⊤}
use Rattle.record_comtrade.specs.declared.reading.ConfigText.{ConfigText}
use Rattle.record_comtrade.specs.Texts.{config_lines, lines_to_come}
use Rattle.record_single.specs.declared.parts.Head.{Head}
use Rattle.record_single.specs.Sections.{section_of}
use Rattle.record_single.specs.Singles.{Parts, cut_by, cut_from, parts_of}
use Rattle.record_single.specs.Singles.Parts.{Whole, NoSamples}

-- the lines of a configuration, how many bytes of samples there are, if that is said, and what stands behind
pub record Opened : Type 0 where
  pub lines : List (List ℕ)
  pub count : Option ℕ
  pub rest : List ℕ

-- the parts of a file, of whose configuration a reader has some already
abbrev pub opened : ConfigText → Parts → Option Opened
opened text (Whole config count rest) = Some (record { lines = lines_to_come text config; count = count; rest = rest })
opened text NoSamples = None

-- the same of a file of which nothing was read
abbrev pub opened_file : Parts → Option Opened
opened_file (Whole config count rest) = Some (record { lines = config_lines config; count = count; rest = rest })
opened_file NoSamples = None

-- what a reader finds, if these are the bytes that follow, up to the end of the file
abbrev pub to_find : Head → (more : List ℕ) → Option Opened
to_find head more = opened head.text (cut_from head.is_config head.line.items more)

-- a reader that takes these bytes is then the next one: so whatever follows
abbrev pub GoesOn : Head → (taken : List ℕ) → Head → Type 0
GoesOn head taken next = (more : List ℕ) → to_find head (taken ++ more) ≡ to_find next more

-- behind these bytes samples begin, of so many bytes if that is said: so whatever follows
abbrev pub Finds : Head → (taken : List ℕ) → (count : Option ℕ) → Head → Type 0
Finds head taken count next = (more : List ℕ)
    → to_find head (taken ++ more) ≡ Some (record { lines = lines_to_come next.text []; count = count; rest = more })

-- a reader of which nothing was read
abbrev pub IsAtTop : Head → Type 0
IsAtTop head = (file : List ℕ) → to_find head file ≡ opened_file (parts_of file)

-- what a reader takes leads on, or to where samples begin
abbrev pub Leads : Head → (taken : List ℕ) → Option (Option ℕ) → Head → Type 0
Leads head taken None next = GoesOn head taken next
Leads head taken (Some count) next = Finds head taken count next

-- what a reader finds whose line is whole, before these bytes
abbrev pub closed : Head → (more : List ℕ) → Option Opened
closed head more =
    opened head.text (cut_by (section_of head.line.items) head.is_config head.line.items more (λ next. cut_from next [] more))

-- a line that is whole leads on, or samples begin behind it: so whatever follows
abbrev pub Closes : Head → Option (Option ℕ) → Head → Type 0
Closes head None next = (more : List ℕ) → closed head more ≡ to_find next more
Closes head (Some count) next = (more : List ℕ)
    → closed head more ≡ Some (record { lines = lines_to_come next.text []; count = count; rest = more })

-- ---- calls

-- a call of a reader: the bytes that it took, and the reader then
pub record Call : Type 0 where
  pub taken : List ℕ
  pub next : Head

-- calls of a reader, one after another, that found no samples
abbrev pub AreCalls : Head → List Call → Type 0
AreCalls head [] = ⊤
AreCalls head (call ∷ calls) = GoesOn head call.taken call.next × AreCalls call.next calls

-- all their bytes
abbrev pub bytes_of : List Call → List ℕ
bytes_of [] = []
bytes_of (call ∷ calls) = call.taken ++ bytes_of calls

-- the reader after them
abbrev pub head_after : Head → List Call → Head
head_after head [] = head
head_after head (call ∷ calls) = head_after call.next calls
