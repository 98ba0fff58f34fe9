-- What a reader of rows has to say, after it has taken some bytes.
use Rattle.std.proofs.Common.{◌≡◌, ℕ, ◌+◌, ◌<◌, if◌then◌else◌, Bool, true, false, List, [], ◌∷◌, ◌++◌, length, take, drop, Option, Some, None, Ok, Err, slice_index_or, nat_eq, refl, append_assoc, ap, sym, ◌∙◌, arith}
use Rattle.std.specs.Option.{is_some}
use Rattle.std.proofs.Math.Seq.{take-add}
use Rattle.std.proofs.Math.Dec.{eqb-suc-zero}
use Rattle.std.proofs.lemmas.Bool.{lt-ltb}
use Rattle.std.proofs.lemmas.List.{length-append, take-append-drop}
use Rattle.record_levels.specs.declared.levels.Levels.{Levels}
use Rattle.record_text.specs.Lines.{Line, is_cr, is_rest, line_on, next_number}
use Rattle.record_comtrade.specs.declared.clock.RowField.TheVariants.{Line as TooLong}
use Rattle.record_comtrade.specs.declared.now.Now.{Now}
use Rattle.record_comtrade.specs.Configs.{with_ok}
use Rattle.record_comtrade.specs.Samples.{Plan, next_count}
use Rattle.record_comtrade.specs.Samples.Said.{Refused}
use Rattle.record_comtrade.specs.Data.{said, unless_refused}
use Rattle.record_samples.specs.declared.course.Course.{Course}
use Rattle.record_samples.specs.declared.lines.Lines.{Lines}
use Rattle.record_samples.specs.declared.row.Row.{Row}
use Rattle.record_samples.specs.declared.rows.Rows.{Rows}
use Rattle.record_samples.specs.Rows.{begins_rest, end_in, ends_row, is_blank, line_says, lines_after, row_fault, row_of, rows_by, rows_from, rows_say, said_of, some_row}
use Rattle.record_samples.specs.Readers.{IsAfter, RowsLead, closed_says, course_says, open_line, plan_of, row_says, rows_to_come}
use Rattle.record_samples.proofs.RowLaws.{closes, opens}

-- ---- a line that is too long

long_line : (plan : Plan) (fields : ℕ) (now : Now) (high : ℕ) (mixed : Option Lines) (number : ℕ) (text : List ℕ) (lines : List Line) → 67108864 < length text
    → rows_say plan fields now high mixed (record { text = text; number = number } ∷ lines) ≡ Refused (row_fault now number TooLong) ∷ []
long_line plan fields now high mixed number text lines h =
    ap (λ v. said_of plan now high mixed (record { text = text; number = number }) (if v then Err TooLong else (if is_blank text then Ok None else with_ok (row_of plan fields (next_count now) mixed text) some_row))
    (λ next levels after. rows_say plan fields next levels after lines)) (lt-ltb 67108864 (length text) h)

long_last : (plan : Plan) (fields : ℕ) (now : Now) (high : ℕ) (mixed : Option Lines) (number : ℕ) (text : List ℕ) → 67108864 < length text
    → rows_say plan fields now high mixed (line_on number text) ≡ Refused (row_fault now number TooLong) ∷ []
long_last plan fields now high mixed number [] h = absurd (omega (arith, h))
long_last plan fields now high mixed number (b ∷ bs) h = long_line plan fields now high mixed number (b ∷ bs) [] h

-- it is refused, whatever follows
long : (plan : Plan) (fields : ℕ) (now : Now) (high : ℕ) (mixed : Option Lines) (after_cr : Bool) (number : ℕ) (text more : List ℕ) → 67108864 < length text
    → rows_say plan fields now high mixed (rows_from after_cr number text more) ≡ Refused (row_fault now number TooLong) ∷ []
long plan fields now high mixed after_cr number text [] h = long_last plan fields now high mixed number text h
long plan fields now high mixed after_cr number text (b ∷ bs) h =
    elim (is_rest after_cr b) as (λ r. rows_say plan fields now high mixed (rows_by r (ends_row b) number text b (λ n t. rows_from (is_cr b) n t bs)) ≡ Refused (row_fault now number TooLong) ∷ []) [
      | true ↦ long plan fields now high mixed (is_cr b) number text bs h
      | false ↦ elim (ends_row b) as (λ e. rows_say plan fields now high mixed (rows_by false e number text b (λ n t. rows_from (is_cr b) n t bs)) ≡ Refused (row_fault now number TooLong) ∷ []) [
        | true ↦ long_line plan fields now high mixed number text (rows_from (is_cr b) (next_number number) [] bs) h
        | false ↦ long plan fields now high mixed (is_cr b) number (text ++ b ∷ []) bs (omega (arith, h, length-append text (b ∷ [])))
      ]
    ]

pub refuses_line : (rows : Rows) (front : List ℕ) (lines : List Line) → rows.course.refusal ≡ None → 67108864 < length rows.begun.items + length front
    → course_says rows.course (open_line rows front ∷ lines) ≡ Refused (row_fault rows.course.here rows.number TooLong) ∷ []
refuses_line rows front lines goes h =
    ap (λ r. unless_refused r (rows_say (plan_of rows.course) rows.course.fields rows.course.here rows.course.channels.high rows.course.mixed (open_line rows front ∷ lines))) goes
    ∙ long_line (plan_of rows.course) rows.course.fields rows.course.here rows.course.channels.high rows.course.mixed rows.number (rows.begun.items ++ front) lines
    (omega (arith, h, length-append rows.begun.items front))

pub refuses_long : (rows : Rows) (bytes more : List ℕ) → rows.course.refusal ≡ None → end_in bytes ≡ length bytes → 0 < length bytes
    → 67108864 < length rows.begun.items + length bytes
    → rows_to_come rows (bytes ++ more) ≡ Refused (row_fault rows.course.here rows.number TooLong) ∷ []
refuses_long rows bytes more goes within some h =
    ap (course_says rows.course) (opens rows.is_after_cr rows.number rows.begun.items bytes more within some)
    ∙ ap (λ r. unless_refused r (rows_say (plan_of rows.course) rows.course.fields rows.course.here rows.course.channels.high rows.course.mixed (rows_from false rows.number (rows.begun.items ++ bytes) more))) goes
    ∙ long (plan_of rows.course) rows.course.fields rows.course.here rows.course.channels.high rows.course.mixed false rows.number (rows.begun.items ++ bytes) more (omega (arith, h, length-append rows.begun.items bytes))

-- ---- the line that is open

-- bytes within it
pub opens_rows : (rows : Rows) (bytes new more : List ℕ) → end_in bytes ≡ length bytes → 0 < length bytes → new ≡ rows.begun.items ++ bytes
    → rows_to_come rows (bytes ++ more) ≡ course_says rows.course (rows_from false rows.number new more)
opens_rows rows bytes new more within some is =
    ap (course_says rows.course) (opens rows.is_after_cr rows.number rows.begun.items bytes more within some)
    ∙ ap (λ t. course_says rows.course (rows_from false rows.number t more)) (sym is)

-- the bytes up to its end
pub closes_rows : (rows : Rows) (bytes front more : List ℕ) (count : ℕ) (after_cr : Bool) → count ≡ end_in bytes → count < length bytes
    → begins_rest rows.is_after_cr bytes ≡ false → front ≡ take count bytes → after_cr ≡ is_cr (slice_index_or bytes count 0)
    → rows_to_come rows (take (count + 1) bytes ++ more) ≡ closed_says rows front after_cr more
closes_rows rows bytes front more count after_cr is less no_rest front_is cr_is =
    ap (λ n. rows_to_come rows (take (n + 1) bytes ++ more)) is
    ∙ ap (course_says rows.course) (closes rows.is_after_cr rows.number rows.begun.items bytes more (omega (arith, is, less)) no_rest)
    ∙ ap (λ n. course_says rows.course (record { text = rows.begun.items ++ take n bytes; number = rows.number }
    ∷ rows_from (is_cr (slice_index_or bytes n 0)) (next_number rows.number) [] more)) (sym is)
    ∙ ap (λ f. course_says rows.course (record { text = rows.begun.items ++ f; number = rows.number }
    ∷ rows_from (is_cr (slice_index_or bytes count 0)) (next_number rows.number) [] more)) (sym front_is)
    ∙ ap (λ v. closed_says rows front v more) (sym cr_is)

-- all bytes, of which those are the front
pub closes_whole : (rows : Rows) (bytes front more : List ℕ) (count : ℕ) (after_cr : Bool) → count ≡ end_in bytes → count < length bytes
    → begins_rest rows.is_after_cr bytes ≡ false → front ≡ take count bytes → after_cr ≡ is_cr (slice_index_or bytes count 0)
    → rows_to_come rows (bytes ++ more) ≡ closed_says rows front after_cr (drop (count + 1) bytes ++ more)
closes_whole rows bytes front more count after_cr is less no_rest front_is cr_is =
    ap (λ l. rows_to_come rows (l ++ more)) (sym (take-append-drop (count + 1) bytes))
    ∙ ap (rows_to_come rows) (append_assoc (take (count + 1) bytes) (drop (count + 1) bytes) more)
    ∙ closes_rows rows bytes front (drop (count + 1) bytes ++ more) count after_cr is less no_rest front_is cr_is

-- a sample, and what is said after it
pub hears : (course : Course) (row : Row) (line : List ℕ) (number : ℕ) (lines : List Line) → course.refusal ≡ None
    → line_says (plan_of course) course.fields (next_count course.here) course.mixed line ≡ Ok (Some row)
    → course_says course (record { text = line; number = number } ∷ lines) ≡ row_says course row (lines_after (plan_of course) course.mixed line) lines
hears course row line number lines goes says =
    ap (λ r. unless_refused r (rows_say (plan_of course) course.fields course.here course.channels.high course.mixed (record { text = line; number = number } ∷ lines))) goes
    ∙ ap (λ s. said_of (plan_of course) course.here course.channels.high course.mixed (record { text = line; number = number }) s (λ next levels after. rows_say (plan_of course) course.fields next levels after lines)) says

-- a reader that has heard a sample
pub takes : (old new : Course) (now : Now) (high : ℕ) (after : Option Lines) (lines : List Line) → old.refusal ≡ None → IsAfter old new
    → new.channels.high ≡ high → new.mixed ≡ after
    → rows_say (plan_of old) old.fields now high after lines ≡ course_says (record new { here = now }) lines
takes old new now high after lines goes same high_is after_is =
    ap (λ p. rows_say p old.fields now high after lines) (sym same.plan)
    ∙ ap (λ n. rows_say (plan_of new) n now high after lines) (sym same.fields)
    ∙ ap (λ n. rows_say (plan_of new) new.fields now n after lines) (sym high_is)
    ∙ ap (λ m. rows_say (plan_of new) new.fields now new.channels.high m lines) (sym after_is)
    ∙ ap (λ r. unless_refused r (rows_say (plan_of new) new.fields now new.channels.high new.mixed lines)) (sym (same.refusal ∙ goes))

empty : (xs : List ℕ) → nat_eq (length xs) 0 ≡ true → xs ≡ []
empty [] e = refl
empty (x ∷ xs) e = absurd (let p : false ≡ true = sym (eqb-suc-zero (length xs)) ∙ e in cc)

-- the line, where none was open, and where one was
pub line_alone : (rows : Rows) (begun front : List ℕ) → nat_eq (length begun) 0 ≡ true → begun ≡ rows.begun.items
    → (lines : List Line) → course_says rows.course (open_line rows front ∷ lines) ≡ course_says rows.course (record { text = front; number = rows.number } ∷ lines)
line_alone rows begun front e is lines =
    ap (λ t. course_says rows.course (record { text = t ++ front; number = rows.number } ∷ lines)) (sym is ∙ empty begun e)

pub line_joined : (rows : Rows) (front text : List ℕ) → text ≡ rows.begun.items ++ front
    → (lines : List Line) → course_says rows.course (open_line rows front ∷ lines) ≡ course_says rows.course (record { text = text; number = rows.number } ∷ lines)
line_joined rows front text is lines = ap (λ t. course_says rows.course (record { text = t; number = rows.number } ∷ lines)) (sym is)

-- the line that the end of the text ends
last_line : (number : ℕ) (text : List ℕ) → nat_eq (length text) 0 ≡ false → line_on number text ≡ record { text = text; number = number } ∷ []
last_line number [] e = absurd (let p : true ≡ false = e in cc)
last_line number (b ∷ bs) e = refl

pub ends_rows : (rows : Rows) (text : List ℕ) → nat_eq (length text) 0 ≡ false → text ≡ rows.begun.items
    → rows_to_come rows [] ≡ course_says rows.course (record { text = text; number = rows.number } ∷ [])
ends_rows rows text e is =
    ap (λ t. course_says rows.course (line_on rows.number t)) (sym is)
    ∙ ap (course_says rows.course) (last_line rows.number text e)

-- ---- where a front of the bytes has led, the next ones lead on from there

pub leads_on : (first here next : Rows) (bytes rest : List ℕ) (count n : ℕ) (levels : Option Levels)
    → ((more : List ℕ) → rows_to_come first (take count bytes ++ more) ≡ rows_to_come here more)
    → rest ≡ drop count bytes → RowsLead here (take n rest) levels next
    → (more : List ℕ) → rows_to_come first (take (count + n) bytes ++ more) ≡ said levels ++ rows_to_come next more
leads_on first here next bytes rest count n levels so_far is leads more =
    ap (λ l. rows_to_come first (l ++ more)) (take-add count n bytes)
    ∙ ap (rows_to_come first) (append_assoc (take count bytes) (take n (drop count bytes)) more)
    ∙ so_far (take n (drop count bytes) ++ more)
    ∙ ap (λ l. rows_to_come here (take n l ++ more)) (sym is)
    ∙ leads more

-- what no levels say
pub nothing_said : (levels : Option Levels) → is_some levels ≡ false → said levels ≡ []
nothing_said None e = refl
nothing_said (Some levels) e = absurd (let p : true ≡ false = e in cc)
