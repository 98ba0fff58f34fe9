-- What is read of a recording, and why it is refused.
-- Source: docs/irig.1, judge; the definitions of value change dumps are those of record_vcd.
use Rattle.std.specs.Prelude.{◌≡◌, ℕ, ◌-◌, ◌^◌, ◌≤◌, IsTrue, IsFalse, List, [], ◌∷◌, ◌++◌, length, box_value, ◌⊎◌, Option, Some, None, Result, Ok, Err, ⊤}
use Rattle.record_text.specs.Words.{words_of}
use Rattle.record_vcd.specs.declared.head.Head.{Head as HeadReader}
use Rattle.record_vcd.specs.declared.changes.HeadFault.TheVariants as head
use Rattle.record_vcd.specs.Sections.{is_over}
use Rattle.record_vcd.specs.Heads.{HeadEnd, head_end, head_from, top}
use Rattle.record_levels.specs.declared.levels.Levels.{Levels}
use Rattle.record_vcd.specs.Changes.{Said}
use Rattle.record_vcd.specs.Changes.Said.{Change, Refused, Ends}
use Rattle.record_vcd.specs.Dumps.{dump_of, to_come}
use Rattle.record_table.specs.declared.head.HeadFault.TheVariants as title
use Rattle.record_table.specs.declared.head.Stage.TheVariants as title_stage
use Rattle.record_table.specs.Heads.{is_over as is_titled}
use Rattle.record_table.specs.Changes.Said.{Refused as RowRefused}
use Rattle.report_judge.specs.declared.asked.Asked.{Asked}
use Rattle.report_judge.specs.declared.channels.ChannelFault.{ChannelFault}
use Rattle.report_judge.specs.declared.fault.JudgeFault.{JudgeFault}
use Rattle.report_judge.specs.declared.fault.JudgeFault.TheVariants.{Empty, Head, Channels, Dump, Title, Columns, Table, Endless, Memory}
use Rattle.report_judge.specs.declared.hearing.Judged.{Judged}
use Rattle.report_judge.specs.declared.reading.Below.{Below}
use Rattle.report_judge.specs.declared.reading.Stage.{Stage}
use Rattle.report_judge.specs.declared.reading.Stage.TheVariants as stage
use Rattle.report_judge.specs.Channels.{channel_bytes, places_of}
use Rattle.report_judge.specs.Forms.{begins_dump, begins_table}
use Rattle.report_judge.specs.Hearings.{HasHeard, IsVerdictOn, nothing_else}
use Rattle.report_judge.specs.Tables.{HasReadRows, HasReadTitle, IsUntitled, JudgedTable, columns_of, rows_say, title_of, told}

-- the head of a text, and the words below it
abbrev pub head_of : (text : List ℕ) → HeadEnd
head_of text = head_from top (words_of text)

-- the places of the wires that are judged of a text
abbrev pub judged_places : (names : Option (List ℕ)) → (text : List ℕ) → Result (List ℕ) ChannelFault
judged_places names text = places_of (head_of text).head.wires names

-- what a dump says of the wires at these places, if there are such
abbrev pub said_at : Result (List ℕ) ChannelFault → (text : List ℕ) → Option (List Said)
said_at (Ok places) text = dump_of places text
said_at (Err fault) text = None

-- what a text says of the lines that are judged
abbrev pub said_of_lines : (names : Option (List ℕ)) → (text : List ℕ) → Option (List Said)
said_of_lines names text = said_at (judged_places names text) text

-- the head of a text is not over: so is that of a text which goes on in some way
abbrev pub IsUnended : (text : List ℕ) → Type 0
IsUnended text = (more : List ℕ) × IsFalse (is_over (head_of (text ++ more)).head.section)

-- a text is refused by this fault; what can't be read is none
abbrev pub RefusedBy : Asked → (text : List ℕ) → JudgeFault → Type 0
RefusedBy asked text Empty = text ≡ []
RefusedBy asked text (Head head.Unended) = IsUnended text
RefusedBy asked text (Head head.NoTimescale) =
    IsTrue (is_over (head_of text).head.section) × ((head_of text).head.unit ≡ None)
RefusedBy asked text (Head head.Memory) = ⊥
RefusedBy asked text (Channels fault there) = judged_places (channel_bytes asked.channels) text ≡ Err fault
RefusedBy asked text (Dump fault) =
    (said : List Said) × (said_of_lines (channel_bytes asked.channels) text ≡ Some (said ++ Refused fault ∷ []))
RefusedBy asked text (Title title.Unended) = IsUntitled text
RefusedBy asked text (Title (title.Refused refusal)) = (title_of text).head.stage ≡ title_stage.Refused refusal
RefusedBy asked text (Title title.Memory) = ⊥
RefusedBy asked text (Columns fault there) = columns_of (channel_bytes asked.channels) text ≡ Err fault
RefusedBy asked text (Table fault) =
    (levels : List Levels) × (rows_say asked text ≡ Some (told levels ++ RowRefused fault ∷ []))
RefusedBy asked text Endless = 2 ^ 64 - 1 ≤ length text
RefusedBy asked text Memory = ⊤
RefusedBy asked text _ = ⊥

-- a text is refused by this fault, whatever follows
abbrev pub RefusedFrom : Asked → (text : List ℕ) → JudgeFault → Type 0
RefusedFrom asked text fault = (more : List ℕ) → RefusedBy asked (text ++ more) fault

-- ---- as far as it was read

-- the levels in what a dump says, after those before, the newest first
abbrev pub levels_after : (before : List Levels) → List Said → List Levels
levels_after before [] = before
levels_after before (Change levels ∷ others) = levels_after (levels ∷ before) others
levels_after before (Refused fault ∷ others) = levels_after before others
levels_after before (Ends time ∷ others) = levels_after before others

-- it says levels alone
abbrev pub AreChanges : List Said → Type 0
AreChanges [] = ⊤
AreChanges (Change levels ∷ others) = AreChanges others
AreChanges (Refused fault ∷ others) = ⊥
AreChanges (Ends time ∷ others) = ⊥

-- this reader of a head has read this text
abbrev pub HasReadHead : (text : List ℕ) → HeadReader → Type 0
HasReadHead text reader = (more : List ℕ) → head_of (text ++ more) ≡ head_end reader more

-- this text was read, up to below its head, and the lines that are judged have heard what it says
pub record HasReadBelow (asked : Asked) (text : List ℕ) (below : Below) : Type 0 where
  pub said : List Said
  pub says : (more : List ℕ) → said_of_lines (channel_bytes asked.channels) (text ++ more)
      ≡ Some (said ++ to_come below.changes more)
  pub changes : AreChanges said
  pub places : List ℕ
  pub chosen : (more : List ℕ) → judged_places (channel_bytes asked.channels) (text ++ more) ≡ Ok places
  pub heard : HasHeard asked (length places) (levels_after [] said) below.hearing

-- this text was read
abbrev pub HasReadTo : Asked → (text : List ℕ) → Stage → Type 0
HasReadTo asked text stage.Start = text ≡ []
HasReadTo asked text (stage.Head reader) =
    IsTrue (begins_dump text) × HasReadHead text reader × IsFalse (is_over reader.section)
HasReadTo asked text (stage.Below below) =
    IsTrue (begins_dump text) × HasReadBelow asked text (box_value below)
HasReadTo asked text (stage.Title reader) =
    IsTrue (begins_table text) × HasReadTitle text reader × IsFalse (is_titled reader.stage)
HasReadTo asked text (stage.Rows rows) =
    IsTrue (begins_table text) × HasReadRows asked text (box_value rows)

-- ---- at its end

-- this dump was judged to its end: what is shown is the verdict on the lines that are judged, by all the
-- levels that it says of them
pub record JudgedDump (asked : Asked) (text : List ℕ) (judged : Judged) : Type 0 where
  pub begins : IsTrue (begins_dump text)
  pub said : List Said
  pub end : ℕ
  pub says : said_of_lines (channel_bytes asked.channels) text ≡ Some (said ++ Ends end ∷ [])
  pub places : List ℕ
  pub chosen : judged_places (channel_bytes asked.channels) text ≡ Ok places
  pub verdict : IsVerdictOn nothing_else asked (length places) (levels_after [] said) judged

-- this text was judged to its end, as a dump or as a table
abbrev pub JudgedWhole : Asked → (text : List ℕ) → Judged → Type 0
JudgedWhole asked text judged = JudgedDump asked text judged ⊎ JudgedTable asked text judged
