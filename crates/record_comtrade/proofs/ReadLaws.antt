-- What a reader of a configuration has, after it has taken some bytes.
use Rattle.std.proofs.Common.{◌≡◌, ℕ, ◌+◌, List, [], ◌∷◌, ◌++◌, map, take, drop, Option, Some, true, false, nat_eq, length, refl, append_assoc, sym, ap, ◌∙◌}
use Rattle.std.proofs.Math.Seq.{take-add}
use Rattle.std.proofs.Math.Dec.{eqb-suc-zero}
use Rattle.std.proofs.lemmas.List.{append-nil}
use Rattle.record_text.specs.declared.lines.Lines.{Lines}
use Rattle.record_text.specs.Lines.{line_on, lines_on, with_line}
use Rattle.record_comtrade.specs.declared.reading.ConfigText.{ConfigText}
use Rattle.record_comtrade.specs.Texts.{lines_to_come, lines_with, text_of, texts_of}

-- where a front of the bytes has led, the next line leads on from there
pub reads_on : (first here next : ConfigText) (lines : Lines) (bytes rest : List ℕ) (count n : ℕ) (ended : Option ℕ) (number : ℕ)
    → ended ≡ Some number
    → ((more : List ℕ) → lines_to_come first (take count bytes ++ more) ≡ lines_to_come here more)
    → rest ≡ drop count bytes
    → ((more : List ℕ) → lines_on here.lines (take n rest ++ more) ≡ with_line ended lines more)
    → ((more : List ℕ) → lines_with (Some number) (record here { lines = lines }) more ≡ lines_to_come next more)
    → (more : List ℕ) → lines_to_come first (take (count + n) bytes ++ more) ≡ lines_to_come next more
reads_on first here next lines bytes rest count n ended number has_ended so_far is takes hears more =
    ap (λ l. lines_to_come first (l ++ more)) (take-add count n bytes)
    ∙ ap (lines_to_come first) (append_assoc (take count bytes) (take n (drop count bytes)) more)
    ∙ so_far (take n (drop count bytes) ++ more)
    ∙ ap (λ l. texts_of here.texts.items ++ map text_of (lines_on here.lines (take n l ++ more))) (sym is)
    ∙ ap (λ l. texts_of here.texts.items ++ map text_of l) (takes more)
    ∙ ap (λ e. lines_with e (record here { lines = lines }) more) has_ended
    ∙ hears more

-- where no line is open, none is to come
pub no_open : (read : ConfigText) → read.lines.text.items ≡ [] → lines_to_come read [] ≡ texts_of read.texts.items
no_open read none =
    ap (λ t. texts_of read.texts.items ++ map text_of (line_on read.lines.number t)) none ∙ append-nil (texts_of read.texts.items)

empty : (xs : List ℕ) → nat_eq (length xs) 0 ≡ true → xs ≡ []
empty [] e = refl
empty (x ∷ xs) e = absurd (let p : false ≡ true = sym (eqb-suc-zero (length xs)) ∙ e in cc)

pub none_open : (read : ConfigText) → nat_eq (length read.lines.text.items) 0 ≡ true → texts_of read.texts.items ≡ lines_to_come read []
none_open read e = sym (no_open read (empty read.lines.text.items e))

last_line : (number : ℕ) (text : List ℕ) → nat_eq (length text) 0 ≡ false → line_on number text ≡ record { text = text; number = number } ∷ []
last_line number [] e = absurd (let p : true ≡ false = e in cc)
last_line number (b ∷ bs) e = refl

-- a line that is open at the end of the text is a line
pub keeps_last : (read next : ConfigText) (number : ℕ) → number ≡ read.lines.number → nat_eq (length read.lines.text.items) 0 ≡ false
    → ((more : List ℕ) → lines_with (Some number) read more ≡ lines_to_come next more) → next.lines.text.items ≡ []
    → texts_of next.texts.items ≡ lines_to_come read []
keeps_last read next number same e hears cleared =
    sym (no_open next cleared) ∙ sym (hears [])
    ∙ ap (λ n. lines_with (Some n) read []) same
    ∙ sym (ap (λ l. texts_of read.texts.items ++ map text_of l) (last_line read.lines.number read.lines.text.items e))
