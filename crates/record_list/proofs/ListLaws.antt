-- What calls of a reader say, one after another.
use Rattle.std.proofs.Common.{◌≡◌, ℕ, List, [], ◌∷◌, ◌++◌, refl, append_assoc, sym, ap, ◌∙◌}
use Rattle.record_text.specs.declared.lines.Lines.{Lines}
use Rattle.record_text.specs.Lines.{lines_on}
use Rattle.record_list.specs.declared.changes.Changes.{Changes}
use Rattle.record_list.specs.Changes.{Reading, changes_of, said}
use Rattle.record_list.specs.Lists.{AreCalls, Call, reader_after, said_in, taken_by, to_come}

pub calls-lead : (changes : Changes) (calls : List Call) (more : List ℕ) → AreCalls changes calls
    → to_come changes (taken_by calls ++ more) ≡ said_in calls ++ to_come (reader_after changes calls) more
calls-lead changes [] more h = refl
calls-lead changes (call ∷ calls) more h =
    ap (to_come changes) (append_assoc call.taken (taken_by calls) more)
    ∙ h.0 (taken_by calls ++ more)
    ∙ ap (λ l. said call.levels ++ l) (calls-lead call.next calls more h.1)
    ∙ sym (append_assoc (said call.levels) (said_in calls) (to_come (reader_after call.next calls) more))

pub list-says : (reading : Reading) (lines : Lines) (first : Changes) (calls : List Call) (more : List ℕ)
    → ((text : List ℕ) → to_come first text ≡ changes_of reading (lines_on lines text)) → AreCalls first calls
    → changes_of reading (lines_on lines (taken_by calls ++ more)) ≡ said_in calls ++ to_come (reader_after first calls) more
list-says reading lines first calls more is led = sym (is (taken_by calls ++ more)) ∙ calls-lead first calls more led
