-- What samples in text say, one after another.
-- Source: IEEE C37.111-2013, 6.4 (ASCII data): a sample is a line of fields, which commas part: its number, its time,
-- the analog channels, and the digital ones, which are 0 or 1. The 1A at the end of a file is that of C37.111-1991.
-- Which fields may be empty, which numbers are too large, and that there are levels where a channel that was chosen
-- changes, is this project's profile. Channels that are not chosen may be anything.
use Rattle.std.specs.Prelude.{ℕ, zero, suc, ◌+◌, ◌*◌, Bool, true, false, ◌||◌, if◌then◌else◌, List, [], ◌∷◌, ◌++◌, length, slice_get, Option, Some, None, Result, Ok, Err, nat_eq, nat_lt}
use Rattle.record_text.specs.Numbers.{number}
use Rattle.record_text.specs.Fields.{after_comma, field, trimmed}
use Rattle.record_text.specs.Lines.{Line, ends_line, is_cr, is_rest, line_on, next_number}
use Rattle.record_comtrade.specs.declared.clock.Reason.TheVariants.{Row as OfRow}
use Rattle.record_comtrade.specs.declared.clock.RowField.{RowField}
use Rattle.record_comtrade.specs.declared.clock.RowField.TheVariants.{Line as TooLong, Number, Time, Few, Level}
use Rattle.record_comtrade.specs.declared.now.Now.{Now}
use Rattle.record_comtrade.specs.declared.now.SampleFault.{SampleFault}
use Rattle.record_comtrade.specs.declared.now.Step.{Step}
use Rattle.record_comtrade.specs.Configs.{at_most, with_ok}
use Rattle.record_comtrade.specs.Samples.{Plan, Said, counted, ended, next_count, said_by, start, stays, step_by}
use Rattle.record_comtrade.specs.Samples.Said.{Refused}
use Rattle.record_samples.specs.declared.lines.Lines.{Lines}
use Rattle.record_samples.specs.declared.row.Row.{Row}
use Rattle.record_samples.specs.Lines.{heard_row, level_of, levels}

-- ---- lines

-- a byte ends a line: CR, LF, or the 1A that ends a file
abbrev pub ends_row : (byte : ℕ) → Bool
ends_row b = ends_line b || nat_eq b 26

-- an LF after a CR is of the end before it, the bytes above end a line, and each other byte is of it; the others are
-- the lines from there on
abbrev pub rows_by : (rest ends : Bool) → (number : ℕ) → (text : List ℕ) → (byte : ℕ)
    → (others : (number : ℕ) → (text : List ℕ) → List Line) → List Line
rows_by true ends number text b others = others number text
rows_by false true number text b others = record { text = text; number = number } ∷ others (next_number number) []
rows_by false false number text b others = others number (text ++ b ∷ [])

-- the lines of a text that goes on after a CR or not, and after the beginning of the line of that number
abbrev pub rows_from : (after_cr : Bool) → (number : ℕ) → (text : List ℕ) → (bytes : List ℕ) → List Line
rows_from after_cr number text [] = line_on number text
rows_from after_cr number text (b ∷ bs) =
    rows_by (is_rest after_cr b) (ends_row b) number text b (λ n t. rows_from (is_cr b) n t bs)

-- bytes begin with the LF of a CR LF
abbrev pub begins_rest : (after_cr : Bool) → (bytes : List ℕ) → Bool
begins_rest after_cr [] = false
begins_rest after_cr (b ∷ bs) = is_rest after_cr b

-- how many bytes stand before the end of a line
abbrev pub end_in : (bytes : List ℕ) → ℕ
end_in [] = 0
end_in (b ∷ bs) = if ends_row b then 0 else end_in bs + 1

-- ---- the fields of a line

-- how many there are
abbrev pub fields_in : (line : List ℕ) → ℕ
fields_in [] = 1
fields_in (b ∷ bs) = if nat_eq b 44 then fields_in bs + 1 else fields_in bs

-- the line from the field at a place on
abbrev pub from_field : (place : ℕ) → (line : List ℕ) → List ℕ
from_field zero line = line
from_field (suc n) line = from_field n (after_comma line)

-- the number of a sample, below 2^32: that of its field, or where it is empty how many samples there are up to it
abbrev pub number_by : (count : ℕ) → (text : List ℕ) → Option ℕ
number_by count [] = at_most 4294967295 (Some count)
number_by count (b ∷ bs) = at_most 4294967295 (number (b ∷ bs))

-- its time, below 2^32 - 1, which says that there is none, as an empty field does
abbrev pub time_by : (text : List ℕ) → Option ℕ
time_by [] = Some 4294967295
time_by (b ∷ bs) = at_most 4294967294 (number (b ∷ bs))

-- ---- a sample

-- what a field has to say
abbrev pub needed : {A : Type 0} → Option A → RowField → Result A RowField
needed (Some a) fault = Ok a
needed None fault = Err fault

-- the level of the k-th channel that was chosen, or 0, in the digital fields
abbrev pub level_at : (digital : List ℕ) → (place : Option ℕ) → Result ℕ RowField
level_at digital None = Ok 0
level_at digital (Some place) = needed (level_of (field place digital)) (Level place)

-- the levels of up to five, the first by the bit of 1
abbrev pub levels_of : (chosen : List ℕ) → (digital : List ℕ) → Result ℕ RowField
levels_of chosen digital =
    with_ok (level_at digital (slice_get chosen 0)) (λ a.
    with_ok (level_at digital (slice_get chosen 1)) (λ b.
    with_ok (level_at digital (slice_get chosen 2)) (λ c.
    with_ok (level_at digital (slice_get chosen 3)) (λ d.
    with_ok (level_at digital (slice_get chosen 4)) (λ e.
    Ok (a + 2 * b + 4 * c + 8 * d + 16 * e))))))

-- those in the digital fields of a line, unless it has fewer fields than it needs
abbrev pub levels_if : (count fields : ℕ) → (chosen : List ℕ) → (digital : List ℕ) → Result ℕ RowField
levels_if count fields chosen digital = if nat_lt count fields then Err Few else levels_of chosen digital

-- the levels of some lines
abbrev pub levels_read : Result Lines RowField → Result ℕ RowField
levels_read (Ok lines) = Ok (levels lines)
levels_read (Err field) = Err field

-- the levels of digital channels, or of lines on channels of either kind if that is what they are
abbrev pub levels_in : Plan → (fields : ℕ) → Option Lines → (line : List ℕ) → Result ℕ RowField
levels_in plan fields None line = levels_if (fields_in line) fields plan.chosen (from_field plan.offset line)
levels_in plan fields (Some lines) line =
    if nat_lt (fields_in line) fields then Err Few else levels_read (heard_row plan.offset lines line)

-- the lines that were heard, or those before
abbrev pub lines_read : Lines → Result Lines RowField → Lines
lines_read before (Ok lines) = lines
lines_read before (Err field) = before

-- lines on channels of either kind with a row more
abbrev pub lines_after : Plan → Option Lines → (line : List ℕ) → Option Lines
lines_after plan None line = None
lines_after plan (Some lines) line = Some (lines_read lines (heard_row plan.offset lines line))

-- the sample on a line, where there are so many samples up to it
abbrev pub row_of : Plan → (fields : ℕ) → (count : ℕ) → Option Lines → (line : List ℕ) → Result Row RowField
row_of plan fields count mixed line =
    with_ok (needed (number_by count (field 0 line)) Number) (λ number.
    with_ok (needed (time_by (field 1 line)) Time) (λ time.
    with_ok (levels_in plan fields mixed line) (λ high.
    Ok (record { mark = record { number = number; time = time }; high = high }))))

-- a line has nothing but blanks
abbrev pub is_blank : (line : List ℕ) → Bool
is_blank line = nat_eq (length (trimmed line)) 0

-- a sample, if there is one
abbrev pub some_row : Row → Result (Option Row) RowField
some_row row = Ok (Some row)

-- what a line says: it is no sample if it is blank, and is refused if it is too long, or by its first fault
abbrev pub line_says : Plan → (fields : ℕ) → (count : ℕ) → Option Lines → (line : List ℕ) → Result (Option Row) RowField
line_says plan fields count mixed line =
    if nat_lt 67108864 (length line) then Err TooLong
    else (if is_blank line then Ok None else with_ok (row_of plan fields count mixed line) some_row)

-- ---- one after another

-- that the next sample can't be read
abbrev pub row_fault : Now → (number : ℕ) → RowField → SampleFault
row_fault now number field = record { sample = next_count now; reason = OfRow (record { line = number; field = field }) }

-- what a sample makes of the levels
abbrev pub step_of : Plan → Now → (high : ℕ) → Row → Step
step_of plan now high row = step_by (stays now.count high row.high) plan (counted now row.mark) row.high

-- what is said of a line, and then from there on, after the samples so far with their last levels and lines
abbrev pub said_of : Plan → Now → (high : ℕ) → Option Lines → (line : Line) → Result (Option Row) RowField
    → (others : Now → (high : ℕ) → Option Lines → List Said) → List Said
said_of plan now high mixed line (Err field) others = Refused (row_fault now line.number field) ∷ []
said_of plan now high mixed line (Ok None) others = others now high mixed
said_of plan now high mixed line (Ok (Some row)) others =
    said_by (step_of plan now high row) (λ next. others next row.high (lines_after plan mixed line.text))

-- what lines of text say, of which each sample has so many fields or more
abbrev pub rows_say : Plan → (fields : ℕ) → Now → (high : ℕ) → Option Lines → (lines : List Line) → List Said
rows_say plan fields now high mixed [] = ended plan now ∷ []
rows_say plan fields now high mixed (line ∷ lines) =
    said_of plan now high mixed line (line_says plan fields (next_count now) mixed line.text)
    (λ next levels after. rows_say plan fields next levels after lines)

-- what the bytes of a text say
abbrev pub changes_of_text : Plan → (fields : ℕ) → Option Lines → (bytes : List ℕ) → List Said
changes_of_text plan fields mixed bytes = rows_say plan fields start 0 mixed (rows_from false 1 [] bytes)
