-- What a head will be, after it has taken some bytes.
use Rattle.std.proofs.Common.{◌≡◌, ℕ, ◌+◌, List, ◌++◌, take, drop, Option, Some, append_assoc, sym, ap, ◌∙◌}
use Rattle.std.proofs.Math.Seq.{take-add}
use Rattle.record_text.specs.declared.lines.Lines.{Lines}
use Rattle.record_text.specs.Lines.{lines_on, with_line}
use Rattle.record_table.specs.declared.head.Head.{Head}
use Rattle.record_table.specs.Heads.{head_end, head_end_by, head_from, value_of}

-- where a front of the bytes has led, the next line leads on from there
pub leads-on : (first here next : Head) (lines : Lines) (bytes rest : List ℕ) (count n : ℕ) (ended : Option ℕ) (number : ℕ)
    → ended ≡ Some number
    → ((more : List ℕ) → head_end first (take count bytes ++ more) ≡ head_end here more)
    → rest ≡ drop count bytes
    → ((more : List ℕ) → lines_on here.lines (take n rest ++ more) ≡ with_line ended lines more)
    → ((more : List ℕ) → head_end_by (Some number) (record here { lines = lines }) more ≡ head_end next more)
    → (more : List ℕ) → head_end first (take (count + n) bytes ++ more) ≡ head_end next more
leads-on first here next lines bytes rest count n ended number has_ended so_far is takes hears more =
    ap (λ l. head_end first (l ++ more)) (take-add count n bytes)
    ∙ ap (head_end first) (append_assoc (take count bytes) (take n (drop count bytes)) more)
    ∙ so_far (take n (drop count bytes) ++ more)
    ∙ ap (λ l. head_from (value_of here) (lines_on here.lines (take n l ++ more))) (sym is)
    ∙ ap (head_from (value_of here)) (takes more)
    ∙ ap (λ e. head_end_by e (record here { lines = lines }) more) has_ended
    ∙ hears more
