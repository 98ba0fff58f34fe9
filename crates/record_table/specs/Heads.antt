-- What stands above the rows of a table, line by line.
-- Source: this project's profile: remarks, of which the last rate and the last list count, and then the line of names.
use Rattle.std.specs.Prelude.{ℕ, Bool, true, false, if◌then◌else◌, List, [], ◌∷◌, Option, Some, None, Result, Ok, Err, nat_eq}
use Rattle.record_text.specs.Lines.{Line, with_line, without_mark}
use Rattle.record_table.specs.declared.clock.Clock.{Clock}
use Rattle.record_table.specs.declared.title.HeadReason.{HeadReason}
use Rattle.record_table.specs.declared.title.HeadReason.TheVariants.{Rate as NoRate}
use Rattle.record_table.specs.declared.head.Head.{Head}
use Rattle.record_table.specs.declared.head.Stage.{Stage}
use Rattle.record_table.specs.declared.head.Stage.TheVariants.{Above, Below, Refused}
use Rattle.record_cells.specs.Rates.{rate_of}
use Rattle.record_cells.specs.Remarks.{is_remark, list_text, rate_text}
use Rattle.record_table.specs.Titles.{bytes_of, title_clock, title_names}

-- a head: the rate of samples and the list of names that remarks say, the names, how far it was read, and on which
-- line the names stand
pub record HeadValue : Type 0 where
  pub rate : Option ℕ
  pub list : List ℕ
  pub names : List (List ℕ)
  pub stage : Stage
  pub above : ℕ

-- what a reader has of a head
abbrev pub value_of : Head → HeadValue
value_of head = record {
  rate = head.rate;
  list = head.list.items;
  names = bytes_of head.names.items;
  stage = head.stage;
  above = head.above;
}

-- of which nothing was read
abbrev pub top : HeadValue
top = record { rate = None; list = []; names = []; stage = Above; above = 0 }

-- a head is over: its names were read, or it was refused
abbrev pub is_over : Stage → Bool
is_over Above = false
is_over (Below clock) = true
is_over (Refused refusal) = true

-- a line is refused
abbrev pub refused : (line : ℕ) → HeadReason → Stage
refused line reason = Refused (record { line = line; reason = reason })

-- a remark on a line says this rate
abbrev pub remarked : HeadValue → (line : ℕ) → (rate : Option ℕ) → HeadValue
remarked head line (Some rate) = record head { rate = Some rate }
remarked head line None = record head { stage = refused line NoRate }

-- a remark has this list of names, if it has one
abbrev pub listed_by : HeadValue → (list : Option (List ℕ)) → HeadValue
listed_by head (Some list) = record head { list = list }
listed_by head None = head

-- a remark on a line has this text of a rate, if it has one, or else this list
abbrev pub remarked_by : HeadValue → (line : ℕ) → (text list : Option (List ℕ)) → HeadValue
remarked_by head line (Some text) list = remarked head line (rate_of text)
remarked_by head line None list = listed_by head list

-- by what rows have their times below the names, or why the line is refused
abbrev pub titled_by : HeadValue → (line : ℕ) → Result Clock HeadReason → HeadValue
titled_by head line (Ok clock) = record head { stage = Below clock; above = line }
titled_by head line (Err reason) = record head { stage = refused line reason; above = line }

-- the names of a line, if it is not refused
abbrev pub named_by : HeadValue → (text : List ℕ) → Result Clock HeadReason → HeadValue
named_by head text (Ok clock) = record head { names = title_names clock text head.list }
named_by head text (Err reason) = head

-- the line of names has this text
abbrev pub titled : HeadValue → (line : ℕ) → (text : List ℕ) → HeadValue
titled head line text =
    titled_by (named_by head text (title_clock head.rate text)) line (title_clock head.rate text)

-- the text of a line; the first one may begin with a byte order mark
abbrev pub text_on : (line : ℕ) → (text : List ℕ) → List ℕ
text_on line text = if nat_eq line 1 then without_mark text else text

-- what the text of a line makes of a head
abbrev pub stepped : HeadValue → (line : ℕ) → (text : List ℕ) → HeadValue
stepped head line text =
    if is_remark text then remarked_by head line (rate_text text) (list_text text) else titled head line text

-- what a line makes of a head
abbrev pub step : HeadValue → (line : ℕ) → (text : List ℕ) → HeadValue
step head line text = stepped head line (text_on line text)

-- a head as far as a text has it, and the lines that are left when it is over
pub record HeadEnd : Type 0 where
  pub head : HeadValue
  pub lines : List Line

-- what lines make of a head, up to its end
abbrev pub head_from : HeadValue → List Line → HeadEnd
head_from head [] = record { head = head; lines = [] }
head_from head (line ∷ lines) =
    if is_over head.stage then record { head = head; lines = line ∷ lines }
    else head_from (step head line.number line.text) lines

-- what a reader's head will be, if these bytes follow, where a line of its own may have ended
abbrev pub head_end_by : (ended : Option ℕ) → Head → (more : List ℕ) → HeadEnd
head_end_by ended head more = head_from (value_of head) (with_line ended head.lines more)

-- what a reader's head will be, if these are the bytes that follow, up to the end of the text
abbrev pub head_end : Head → (more : List ℕ) → HeadEnd
head_end head more = head_end_by None head more
