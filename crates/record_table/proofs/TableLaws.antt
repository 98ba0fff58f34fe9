-- What a reader of a table still has to say, after it has taken some bytes.
use Rattle.std.proofs.Common.{◌≡◌, ℕ, ◌+◌, List, ◌∷◌, ◌++◌, take, drop, [], Option, None, Some, true, false, nat_eq, length, refl, append_assoc, sym, ap, ◌∙◌}
use Rattle.std.proofs.Math.Seq.{take-add}
use Rattle.std.proofs.lemmas.List.{take-append-drop}
use Rattle.std.specs.Option.{is_some}
use Rattle.std.specs.Prelude.{IfErr, IfOk, MatchResult, Result, Ok, Err}
use Rattle.record_levels.specs.declared.levels.Levels.{Levels}
use Rattle.record_text.specs.declared.lines.Lines.{Lines}
use Rattle.record_text.specs.Lines.{line_on, lines_on, with_line}
use Rattle.record_table.specs.declared.changes.Changes.{Changes}
use Rattle.record_table.specs.declared.changes.End.{End}
use Rattle.record_table.specs.declared.now.Fault.{Fault}
use Rattle.record_table.specs.Changes.{Said, ended, said, said_from}
use Rattle.record_table.specs.Changes.Said.{Ends, Refused}
use Rattle.record_table.specs.Tables.{said_of, to_come, to_come_by, unless_refused, reading_of}

-- where a front of the bytes has led, the next ones lead on from there
pub leads-on : (first here : Changes) (lines : Lines) (bytes rest : List ℕ) (count n : ℕ) (ended : Option ℕ) (line : ℕ)
    → ended ≡ Some line
    → ((more : List ℕ) → to_come first (take count bytes ++ more) ≡ to_come here more)
    → rest ≡ drop count bytes
    → ((more : List ℕ) → lines_on here.lines (take n rest ++ more) ≡ with_line ended lines more)
    → (more : List ℕ) → to_come first (take (count + n) bytes ++ more) ≡ to_come_by (Some line) (record here { lines = lines }) more
leads-on first here lines bytes rest count n ended line has_ended so_far is takes more =
    ap (λ l. to_come first (l ++ more)) (take-add count n bytes)
    ∙ ap (to_come first) (append_assoc (take count bytes) (take n (drop count bytes)) more)
    ∙ so_far (take n (drop count bytes) ++ more)
    ∙ ap (λ l. said_of here (lines_on here.lines (take n l ++ more))) (sym is)
    ∙ ap (said_of here) (takes more)
    ∙ ap (λ e. to_come_by e (record here { lines = lines }) more) has_ended

-- what no levels say
pub nothing-said : (levels : Option Levels) → is_some levels ≡ false → said levels ≡ []
nothing-said None e = refl
nothing-said (Some levels) e = absurd (let p : true ≡ false = e in cc)

-- what holds of a front and whatever follows holds of all the bytes
pub of-all : (first : Changes) (bytes : List ℕ) (count : ℕ) (said : List Said)
    → ((more : List ℕ) → to_come first (take count bytes ++ more) ≡ said)
    → (more : List ℕ) → to_come first (bytes ++ more) ≡ said
of-all first bytes count said holds more =
    ap (λ l. to_come first (l ++ more)) (sym (take-append-drop count bytes))
    ∙ ap (to_come first) (append_assoc (take count bytes) (drop count bytes) more)
    ∙ holds (drop count bytes ++ more)

-- a line that is open at the end of the text is a line
pub last-line : (number : ℕ) (text : List ℕ) → nat_eq (length text) 0 ≡ false → line_on number text ≡ record { text = text; number = number } ∷ []
last-line number [] e = absurd (let p : true ≡ false = e in cc)
last-line number (b ∷ bs) e = refl

-- at the end of the text that line is heard
pub hears-last : (changes : Changes) (number : ℕ) → number ≡ changes.lines.number → nat_eq (length changes.lines.text.items) 0 ≡ false
    → to_come changes [] ≡ to_come_by (Some number) changes []
hears-last changes number same e =
    ap (said_of changes) (last-line changes.lines.number changes.lines.text.items e)
    ∙ ap (λ n. to_come_by (Some n) changes []) (sym same)

-- where none is open, the end is said
pub rests : (changes : Changes) → changes.lines.text.items ≡ [] → changes.refusal ≡ None
    → to_come changes [] ≡ ended changes.above changes.here
rests changes none goes =
    ap (λ r. unless_refused r (said_from (reading_of changes) changes.here (lines_on changes.lines []))) goes
    ∙ ap (λ t. said_from (reading_of changes) changes.here (line_on changes.lines.number t)) none

-- what levels and then the end are, where both are known
pub end-says : (result : Result End Fault) (before : Option Levels) (coming rest : List Said) → coming ≡ said before ++ rest
    → IfOk result (λ end. end.before ≡ before) → IfOk result (λ end. rest ≡ said end.levels ++ Ends end.time_ns ∷ [])
    → IfErr result (λ fault. before ≡ None) → IfErr result (λ fault. rest ≡ Refused fault ∷ [])
    → MatchResult result (λ end. coming ≡ said end.before ++ (said end.levels ++ Ends end.time_ns ∷ [])) (λ fault. coming ≡ Refused fault ∷ [])
end-says (Ok end) before coming rest is same ends none refuses =
    is ∙ ap (λ b. said b ++ rest) (sym same) ∙ ap (λ l. said end.before ++ l) ends
end-says (Err fault) before coming rest is same ends none refuses = is ∙ ap (λ b. said b ++ rest) none ∙ refuses
