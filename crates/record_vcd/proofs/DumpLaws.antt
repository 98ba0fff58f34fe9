-- What a reader of a dump still has to say, after it has taken some bytes.
use Rattle.std.proofs.Common.{◌≡◌, ℕ, ◌+◌, List, ◌∷◌, ◌++◌, take, drop, [], Option, None, Some, true, false, nat_eq, length, IsFalse, IfSome, refl, append_assoc, sym, ap, ◌∙◌}
use Rattle.std.proofs.Math.Seq.{take-add}
use Rattle.std.proofs.lemmas.List.{take-append-drop}
use Rattle.std.specs.Option.{is_some}
use Rattle.record_levels.specs.declared.levels.Levels.{Levels}
use Rattle.record_text.specs.declared.words.Words.{Words}
use Rattle.record_text.specs.Words.{with_ended, word_on, words_on}
use Rattle.record_vcd.specs.declared.changes.Changes.{Changes}
use Rattle.record_vcd.specs.Changes.{Said, due, said}
use Rattle.record_vcd.specs.Changes.Said.{Ends}
use Rattle.record_vcd.specs.declared.now.Now.{Now}
use Rattle.record_vcd.specs.Dumps.{said_of, to_come, to_come_by, unless_refused, words_say}

-- where a front of the bytes has led, the next ones lead on from there
pub leads-on : (first here : Changes) (words : Words) (bytes rest : List ℕ) (count n : ℕ) (ended : Option ℕ) (line : ℕ)
    → ended ≡ Some line
    → ((more : List ℕ) → to_come first (take count bytes ++ more) ≡ to_come here more)
    → rest ≡ drop count bytes
    → ((more : List ℕ) → words_on here.words (take n rest ++ more) ≡ with_ended ended words more)
    → (more : List ℕ) → to_come first (take (count + n) bytes ++ more) ≡ to_come_by (Some line) (record here { words = words }) more
leads-on first here words bytes rest count n ended line has_ended so_far is takes more =
    ap (λ l. to_come first (l ++ more)) (take-add count n bytes)
    ∙ ap (to_come first) (append_assoc (take count bytes) (take n (drop count bytes)) more)
    ∙ so_far (take n (drop count bytes) ++ more)
    ∙ ap (λ l. said_of here (words_on here.words (take n l ++ more))) (sym is)
    ∙ ap (said_of here) (takes more)
    ∙ ap (λ e. to_come_by e (record here { words = words }) more) has_ended

-- what no levels say
pub nothing-said : (levels : Option Levels) → is_some levels ≡ false → said levels ≡ []
nothing-said None e = refl
nothing-said (Some levels) e = absurd (let p : true ≡ false = e in cc)

-- what holds of a front and whatever follows holds of all the bytes
pub of-all : (first : Changes) (bytes : List ℕ) (count : ℕ) (said : List Said)
    → ((more : List ℕ) → to_come first (take count bytes ++ more) ≡ said)
    → (more : List ℕ) → to_come first (bytes ++ more) ≡ said
of-all first bytes count said holds more =
    ap (λ l. to_come first (l ++ more)) (sym (take-append-drop count bytes))
    ∙ ap (to_come first) (append_assoc (take count bytes) (drop count bytes) more)
    ∙ holds (drop count bytes ++ more)

-- a word that is open at the end of the text is a word
pub last-word : (line : ℕ) (word : List ℕ) → nat_eq (length word) 0 ≡ false → word_on line word ≡ record { text = word; line = line } ∷ []
last-word line [] e = absurd (let p : true ≡ false = e in cc)
last-word line (b ∷ bs) e = refl

-- at the end of the text that word is heard
pub hears-last : (changes : Changes) (line : ℕ) → line ≡ changes.words.line → nat_eq (length changes.words.word.items) 0 ≡ false
    → to_come changes [] ≡ to_come_by (Some line) changes []
hears-last changes line same e =
    ap (said_of changes) (last-word changes.words.line changes.words.word.items e)
    ∙ ap (λ l. to_come_by (Some l) changes []) (sym same)

-- where none is open, the last levels are said, and the end
pub rests : (changes : Changes) → changes.words.word.items ≡ [] → changes.refusal ≡ None
    → to_come changes [] ≡ said (due changes.here) ++ Ends changes.here.time_ns ∷ []
rests changes none goes =
    ap (λ r. unless_refused r (words_say changes changes.skip changes.here (words_on changes.words []))) goes
    ∙ ap (λ w. words_say changes changes.skip changes.here (word_on changes.words.line w)) none

-- nothing is due where levels were said
pub none-due : (levels : Option Levels) (now : Now) → is_some levels ≡ true → IfSome levels (λ l. IsFalse now.is_due)
    → said (due now) ≡ []
none-due None now e h = absurd (let p : false ≡ true = e in cc)
none-due (Some levels) now e h = rw h refl
