-- What calls of a reader say, one after another, and what a whole table says.
use Rattle.std.proofs.Common.{◌≡◌, ℕ, List, [], ◌∷◌, ◌++◌, Option, Some, IsTrue, refl, append_assoc, sym, ap, ◌∙◌}
use Rattle.std.specs.Prelude.{if◌then◌else◌}
use Rattle.record_text.specs.Lines.{Line, lines_of, lines_on}
use Rattle.record_table.specs.declared.clock.Clock.{Clock}
use Rattle.record_table.specs.declared.head.Head.{Head}
use Rattle.record_table.specs.declared.head.Stage.TheVariants.{Below}
use Rattle.record_table.specs.declared.changes.Changes.{Changes}
use Rattle.record_cells.specs.declared.volts.Threshold.{Threshold}
use Rattle.record_table.specs.Heads.{HeadEnd, HeadValue, head_end, head_from, is_over, step, top, value_of}
use Rattle.record_table.specs.Changes.{said}
use Rattle.record_table.specs.Tables.{AreCalls, AreHeadCalls, Call, HeadCall, IsAtTop, IsBelow, below, below_by, head_after, head_taken_by, reader_after, said_in, table_of, taken_by, to_come}

pub calls-lead : (changes : Changes) (calls : List Call) (more : List ℕ) → AreCalls changes calls
    → to_come changes (taken_by calls ++ more) ≡ said_in calls ++ to_come (reader_after changes calls) more
calls-lead changes [] more h = refl
calls-lead changes (call ∷ calls) more h =
    ap (to_come changes) (append_assoc call.taken (taken_by calls) more)
    ∙ h.0 (taken_by calls ++ more)
    ∙ ap (λ l. said call.levels ++ l) (calls-lead call.next calls more h.1)
    ∙ sym (append_assoc (said call.levels) (said_in calls) (to_come (reader_after call.next calls) more))

pub head-calls-lead : (head : Head) (calls : List HeadCall) (more : List ℕ) → AreHeadCalls head calls
    → head_end head (head_taken_by calls ++ more) ≡ head_end (head_after head calls) more
head-calls-lead head [] more h = refl
head-calls-lead head (call ∷ calls) more h =
    ap (head_end head) (append_assoc call.taken (head_taken_by calls) more)
    ∙ h.0 (head_taken_by calls ++ more)
    ∙ head-calls-lead call.next calls more h.1

-- a head that is over takes no line
pub over-stays : (head : HeadValue) (lines : List Line) → IsTrue (is_over head.stage)
    → head_from head lines ≡ record { head = head; lines = lines }
over-stays head [] h = refl
over-stays head (line ∷ lines) h =
    ap (λ b. if b then record { head = head; lines = line ∷ lines } else head_from (step head line.number line.text) lines) h

pub top-is : (first : Head) (text : List ℕ) → IsAtTop first → head_end first text ≡ head_from top (lines_of text)
top-is first text h =
    ap (λ v. head_from v (lines_on first.lines text)) h.0
    ∙ ap (head_from top) (h.1 text)

pub file-says : (first : Head) (head_calls : List HeadCall) (threshold : Option Threshold) (places : List ℕ) (clock : Clock) (changes : Changes) (calls : List Call) (more : List ℕ)
    → IsAtTop first → AreHeadCalls first head_calls
    → (head_after first head_calls).stage ≡ Below clock
    → IsBelow (head_after first head_calls) threshold places clock changes
    → AreCalls changes calls
    → table_of threshold places (head_taken_by head_calls ++ (taken_by calls ++ more)) ≡ Some (said_in calls ++ to_come (reader_after changes calls) more)
file-says first head_calls threshold places clock changes calls more at_top head_led is_stage is_below led =
    let head = head_after first head_calls in
    let rest = taken_by calls ++ more in
    let end : HeadEnd = record { head = value_of head; lines = lines_on head.lines rest } in
    ap (below threshold places) (sym (top-is first (head_taken_by head_calls ++ rest) at_top) ∙ head-calls-lead first head_calls rest head_led ∙ over-stays (value_of head) (lines_on head.lines rest) (ap is_over is_stage))
    ∙ ap (λ s. below_by s threshold places end) is_stage
    ∙ ap Some (sym (is_below rest) ∙ calls-lead changes calls more led)
