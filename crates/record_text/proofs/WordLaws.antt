-- Words of a text in two pieces.
use Rattle.std.proofs.Common.{◌≡◌, ℕ, true, false, List, [], ◌∷◌, ◌++◌, refl, ap, sym, append_assoc, ◌∙◌}
use Rattle.record_text.specs.Words.{after, after_by, is_blank, kept, line_after, whole_words, word_on, words_by, words_from}

pub words-append : (line : ℕ) (word xs ys : List ℕ) → words_from line word (xs ++ ys)
    ≡ whole_words line word xs ++ words_from (after line word xs).line (after line word xs).text ys
words-append line word [] ys = refl
words-append line word (b ∷ bs) ys =
    elim (is_blank b) as (λ v. words_by v line word b (λ l w. words_from l w (bs ++ ys))
    ≡ words_by v line word b (λ l w. whole_words l w bs)
    ++ words_from (after_by v line word b (λ l w. after l w bs)).line (after_by v line word b (λ l w. after l w bs)).text ys) [
      | true ↦ ap (λ l. word_on line word ++ l) (words-append (line_after line b) [] bs ys)
          ∙ sym (append_assoc (word_on line word) (whole_words (line_after line b) [] bs) _)
      | false ↦ words-append line (kept word b) bs ys
    ]
