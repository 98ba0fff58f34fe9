-- What a reader of samples still has to say.
-- Source: this project's profile.
use Rattle.std.specs.Prelude.{◌≡◌, ℕ, Bool, List, [], ◌∷◌, ◌++◌, Option, Result, Ok, Err, ⊤}
use Rattle.record_text.specs.Lines.{Line, next_number}
use Rattle.record_levels.specs.declared.levels.Levels.{Levels}
use Rattle.record_comtrade.specs.declared.reader.DataFault.{DataFault}
use Rattle.record_comtrade.specs.declared.reader.DataFault.TheVariants.{Memory}
use Rattle.record_comtrade.specs.declared.reader.DataFault.TheVariants.{Refused as IsRefused}
use Rattle.record_comtrade.specs.Samples.{Plan, Said, said_by, samples_from}
use Rattle.record_comtrade.specs.Samples.Said.{Ends, Refused}
use Rattle.record_comtrade.specs.Data.{said, unless_refused}
use Rattle.record_comtrade.specs.Data.{to_come as numbers_to_come}
use Rattle.record_samples.specs.declared.row.Row.{Row}
use Rattle.record_samples.specs.declared.lines.Lines.{Lines}
use Rattle.record_samples.specs.declared.mixed.Mixed.{Mixed}
use Rattle.record_samples.specs.declared.course.Course.{Course}
use Rattle.record_samples.specs.declared.rows.Rows.{Rows}
use Rattle.record_samples.specs.declared.samples.End.{End}
use Rattle.record_samples.specs.declared.samples.Kind.{Kind}
use Rattle.record_samples.specs.declared.samples.Kind.TheVariants.{OfMixed, OfNumbers, OfRows}
use Rattle.record_samples.specs.declared.samples.Samples.{Samples}
use Rattle.record_samples.specs.Rows.{rows_from, rows_say, step_of}
use Rattle.record_samples.specs.Mixed.{mixed_from}

-- ---- rows

-- what a reader reads of rows
abbrev pub plan_of : Course → Plan
plan_of course = record { rates = course.rates.items; clock = course.clock; offset = course.offset; chosen = course.channels.chosen.items }

-- what lines say to it as it stands
abbrev pub course_says : Course → (lines : List Line) → List Said
course_says course lines = unless_refused course.refusal (rows_say (plan_of course) course.fields course.here course.channels.high course.mixed lines)

-- a reader is another only in the levels and the lines that it has heard
pub record IsAfter (old new : Course) : Type 0 where
  pub plan : plan_of new ≡ plan_of old
  pub fields : new.fields ≡ old.fields
  pub here : new.here ≡ old.here
  pub refusal : new.refusal ≡ old.refusal

-- what a sample, which leaves these lines, and the text after it say to it
abbrev pub row_says : Course → Row → Option Lines → (lines : List Line) → List Said
row_says course row after lines =
    said_by (step_of (plan_of course) course.here course.channels.high row) (λ next. rows_say (plan_of course) course.fields next row.high after lines)

-- what a reader of rows has to say yet, if these are the bytes that follow, up to the end of the text
abbrev pub rows_to_come : Rows → (more : List ℕ) → List Said
rows_to_come rows more = course_says rows.course (rows_from rows.is_after_cr rows.number rows.begun.items more)

-- a reader of rows that takes these bytes says these levels, if any, and is then the next one: so whatever follows
abbrev pub RowsLead : Rows → (taken : List ℕ) → Option Levels → Rows → Type 0
RowsLead rows taken levels next = (more : List ℕ) → rows_to_come rows (taken ++ more) ≡ said levels ++ rows_to_come next more

-- the line that is open if it goes on with these bytes
abbrev pub open_line : Rows → (front : List ℕ) → Line
open_line rows front = record { text = rows.begun.items ++ front; number = rows.number }

-- what is said of this line, ended by a CR or not, and of the bytes after it
abbrev pub closed_says : Rows → (front : List ℕ) → (after_cr : Bool) → (more : List ℕ) → List Said
closed_says rows front after_cr more =
    course_says rows.course (open_line rows front ∷ rows_from after_cr (next_number rows.number) [] more)

-- ---- numbers, of which analog ones are chosen

-- what a reader reads of them
abbrev pub numbers_plan : Mixed → Plan
numbers_plan mixed = record { rates = mixed.rates.items; clock = mixed.clock; offset = mixed.offset; chosen = [] }

-- what these samples say to it as it stands
abbrev pub mixed_says : Mixed → (samples : List (List ℕ)) → List Said
mixed_says mixed samples =
    unless_refused mixed.refusal (mixed_from (numbers_plan mixed) mixed.form mixed.here mixed.lines samples)

-- what it has to say yet, if these are the bytes that follow, up to the end of the samples
abbrev pub mixed_to_come : Mixed → (more : List ℕ) → List Said
mixed_to_come mixed more = mixed_says mixed (samples_from mixed.size mixed.begun.items more)

-- a reader of them that takes these bytes says these levels, if any, and is then the next one: so whatever follows
abbrev pub MixedLead : Mixed → (taken : List ℕ) → Option Levels → Mixed → Type 0
MixedLead mixed taken levels next = (more : List ℕ) → mixed_to_come mixed (taken ++ more) ≡ said levels ++ mixed_to_come next more

-- ---- samples in either form

-- what a reader of either form has to say yet
abbrev pub kind_to_come : Kind → (more : List ℕ) → List Said
kind_to_come (OfNumbers numbers) more = numbers_to_come numbers more
kind_to_come (OfMixed mixed) more = mixed_to_come mixed more
kind_to_come (OfRows rows) more = rows_to_come rows more

-- what a reader has to say yet, if these are the bytes that follow, up to the end of the samples
abbrev pub to_come : Samples → (more : List ℕ) → List Said
to_come samples more = kind_to_come samples.kind more

-- a reader that takes these bytes says these levels, if any, and is then the next one: so whatever follows
abbrev pub Leads : Samples → (taken : List ℕ) → Option Levels → Samples → Type 0
Leads samples taken levels next = (more : List ℕ) → to_come samples (taken ++ more) ≡ said levels ++ to_come next more

-- what is said at the end: the levels of a last line that had no end, if any, and then the time at which the
-- recording ends, or what is refused, unless there was no memory
abbrev pub IsEnd : Result End DataFault → List Said → Type 0
IsEnd (Ok end) all = all ≡ said end.levels ++ Ends end.time_ns ∷ []
IsEnd (Err Memory) all = ⊤
IsEnd (Err (IsRefused fault)) all = (levels : Option Levels) × (all ≡ said levels ++ Refused fault ∷ [])
