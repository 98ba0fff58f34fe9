-- What calls of a reader say, one after another, and what a whole dump says.
use Rattle.std.proofs.Common.{◌≡◌, ℕ, List, [], ◌∷◌, ◌++◌, map, Some, None, IsTrue, refl, append_assoc, sym, ap, ◌∙◌}
use Rattle.std.specs.Prelude.{if◌then◌else◌, slice_index_or}
use Rattle.record_text.specs.Words.{Word, words_from, words_on}
use Rattle.record_vcd.specs.declared.unit.Unit.{Unit}
use Rattle.record_vcd.specs.declared.wire.Wire.{Wire}
use Rattle.record_vcd.specs.declared.head.Head.{Head}
use Rattle.record_vcd.specs.declared.changes.Changes.{Changes}
use Rattle.record_vcd.specs.Sections.{is_over, wires_of}
use Rattle.record_vcd.specs.Heads.{HeadEnd, HeadValue, head_end, head_from, step, top, value_of}
use Rattle.record_vcd.specs.Meanings.{codes_of}
use Rattle.record_vcd.specs.Changes.{changes_of, said}
use Rattle.record_vcd.specs.Dumps.{AreCalls, AreHeadCalls, Call, HeadCall, IsAtTop, IsBelow, below, below_by, dump_of, head_after, head_taken_by, reader_after, said_in, taken_by, to_come}

pub calls-lead : (changes : Changes) (calls : List Call) (more : List ℕ) → AreCalls changes calls
    → to_come changes (taken_by calls ++ more) ≡ said_in calls ++ to_come (reader_after changes calls) more
calls-lead changes [] more h = refl
calls-lead changes (call ∷ calls) more h =
    ap (to_come changes) (append_assoc call.taken (taken_by calls) more)
    ∙ h.0 (taken_by calls ++ more)
    ∙ ap (λ l. said call.levels ++ l) (calls-lead call.next calls more h.1)
    ∙ sym (append_assoc (said call.levels) (said_in calls) (to_come (reader_after call.next calls) more))

pub head-calls-lead : (head : Head) (calls : List HeadCall) (more : List ℕ) → AreHeadCalls head calls
    → head_end head (head_taken_by calls ++ more) ≡ head_end (head_after head calls) more
head-calls-lead head [] more h = refl
head-calls-lead head (call ∷ calls) more h =
    ap (head_end head) (append_assoc call.taken (head_taken_by calls) more)
    ∙ h.0 (head_taken_by calls ++ more)
    ∙ head-calls-lead call.next calls more h.1

-- a head that is over takes no word
pub over-stays : (head : HeadValue) (words : List Word) → IsTrue (is_over head.section)
    → head_from head words ≡ record { head = head; words = words }
over-stays head [] h = refl
over-stays head (word ∷ words) h =
    ap (λ b. if b then record { head = head; words = word ∷ words } else head_from (step head word.text) words) h

pub top-is : (first : Head) (text : List ℕ) → IsAtTop first → head_end first text ≡ head_from top (words_from 1 [] text)
top-is first text h =
    ap (λ v. head_from v (words_on first.words text)) h.0
    ∙ ap (λ n. head_from top (words_from n first.words.word.items text)) h.1
    ∙ ap (λ w. head_from top (words_from 1 w text)) h.2

pub codes-same : (wires : List Wire) → map (λ wire. wire.code) (wires_of wires) ≡ codes_of wires
codes-same [] = refl
codes-same (wire ∷ wires) = ap (λ l. wire.code.items ∷ l) (codes-same wires)

pub file-says : (first : Head) (head_calls : List HeadCall) (places : List ℕ) (unit : Unit) (changes : Changes) (calls : List Call) (more : List ℕ)
    → IsAtTop first → AreHeadCalls first head_calls
    → IsTrue (is_over (head_after first head_calls).section)
    → (head_after first head_calls).unit ≡ Some unit
    → IsBelow (head_after first head_calls) places unit changes
    → AreCalls changes calls
    → dump_of places (head_taken_by head_calls ++ (taken_by calls ++ more)) ≡ Some (said_in calls ++ to_come (reader_after changes calls) more)
file-says first head_calls places unit changes calls more at_top head_led over has_unit is_below led =
    let head = head_after first head_calls in
    let rest = taken_by calls ++ more in
    let end : HeadEnd = record { head = value_of head; words = words_on head.words rest } in
    ap (below places) (sym (top-is first (head_taken_by head_calls ++ rest) at_top) ∙ head-calls-lead first head_calls rest head_led ∙ over-stays (value_of head) (words_on head.words rest) over)
    ∙ ap (λ b. if b then below_by head.unit places end else None) over
    ∙ ap (λ u. below_by u places end) has_unit
    ∙ ap (λ c. Some (changes_of (map (λ place. slice_index_or c place []) places) unit (words_on head.words rest))) (codes-same head.wires.items)
    ∙ ap Some (sym (is_below rest) ∙ calls-lead changes calls more led)
