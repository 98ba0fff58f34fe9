-- What a head will be, after it has taken some bytes.
use Rattle.std.proofs.Common.{◌≡◌, ℕ, ◌+◌, List, ◌++◌, take, drop, Option, Some, None, true, false, append_assoc, sym, ap, ◌∙◌}
use Rattle.std.proofs.Math.Seq.{take-add}
use Rattle.std.specs.Option.{is_some}
use Rattle.record_text.specs.declared.words.Words.{Words}
use Rattle.record_text.specs.Words.{with_ended, words_on}
use Rattle.record_vcd.specs.declared.head.Head.{Head}
use Rattle.record_vcd.specs.Heads.{HeadEnd, head_end, head_end_by, head_from, value_of}

-- a word that has ended leads there, on whatever line it stands
pub heard-by : (ended : Option ℕ) (here : Head) (more : List ℕ) (then : HeadEnd) → is_some ended ≡ true
    → ((line : ℕ) → head_end_by (Some line) here more ≡ then) → head_end_by ended here more ≡ then
heard-by None here more then e h = absurd (let p : false ≡ true = e in cc)
heard-by (Some line) here more then e h = h line

-- where a front of the bytes has led, the next word leads on from there
pub leads-on : (first here next : Head) (words : Words) (bytes rest : List ℕ) (count n : ℕ) (ended : Option ℕ)
    → is_some ended ≡ true
    → ((more : List ℕ) → head_end first (take count bytes ++ more) ≡ head_end here more)
    → rest ≡ drop count bytes
    → ((more : List ℕ) → words_on here.words (take n rest ++ more) ≡ with_ended ended words more)
    → ((line : ℕ) (more : List ℕ) → head_end_by (Some line) (record here { words = words }) more ≡ head_end next more)
    → (more : List ℕ) → head_end first (take (count + n) bytes ++ more) ≡ head_end next more
leads-on first here next words bytes rest count n ended has_ended so_far is takes hears more =
    ap (λ l. head_end first (l ++ more)) (take-add count n bytes)
    ∙ ap (head_end first) (append_assoc (take count bytes) (take n (drop count bytes)) more)
    ∙ so_far (take n (drop count bytes) ++ more)
    ∙ ap (λ l. head_from (value_of here) (words_on here.words (take n l ++ more))) (sym is)
    ∙ ap (head_from (value_of here)) (takes more)
    ∙ heard-by ended (record here { words = words }) more (head_end next more) has_ended (λ line. hears line more)
