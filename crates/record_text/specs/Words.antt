-- The words of a text, which blanks part, each with the line on which it stands.
-- Source: this project's profile. The blanks are those of IEEE 1364-2005, 3.2 (spaces, tabs, ends of lines
-- and pages), and the vertical tab.
use Rattle.std.specs.Prelude.{ℕ, ◌+◌, ◌-◌, ◌^◌, Bool, true, false, ◌&&◌, ◌||◌, if◌then◌else◌, List, [], ◌∷◌, ◌++◌, length, Option, Some, None, nat_eq, nat_lt}
use Rattle.record_text.specs.declared.words.Words.{Words}

-- a space, a tab, or the end of a line or a page
abbrev pub is_blank : ℕ → Bool
is_blank b = nat_eq b 32 || nat_eq b 9 || nat_eq b 10 || nat_eq b 11 || nat_eq b 12 || nat_eq b 13

-- a word, and the line on which it stands, from 1
pub record Word : Type 0 where
  pub text : List ℕ
  pub line : ℕ

-- a word with one byte more, of which the first 256 are kept
abbrev pub kept : (word : List ℕ) → (byte : ℕ) → List ℕ
kept word b = if nat_lt (length word) 256 then word ++ b ∷ [] else word

-- the line after a byte; it stays at 2^64 - 1
abbrev pub line_after : (line : ℕ) → (byte : ℕ) → ℕ
line_after line b = if nat_eq b 10 && nat_lt line (2 ^ 64 - 1) then line + 1 else line

-- a word, if it is one
abbrev pub word_on : (line : ℕ) → (word : List ℕ) → List Word
word_on line [] = []
word_on line (b ∷ bs) = record { text = b ∷ bs; line = line } ∷ []

-- a blank ends a word, and each other byte is of it; the others are the words from there on
abbrev pub words_by : (blank : Bool) → (line : ℕ) → (word : List ℕ) → (byte : ℕ)
    → (others : (line : ℕ) → (word : List ℕ) → List Word) → List Word
words_by true line word b others = word_on line word ++ others (line_after line b) []
words_by false line word b others = others line (kept word b)

-- the words of a text that goes on after the beginning of one, on that line. The text ends a word too
abbrev pub words_from : (line : ℕ) → (word : List ℕ) → (text : List ℕ) → List Word
words_from line word [] = word_on line word
words_from line word (b ∷ bs) = words_by (is_blank b) line word b (λ l w. words_from l w bs)

-- the words of a text
abbrev pub words_of : (text : List ℕ) → List Word
words_of text = words_from 1 [] text

-- those of what a reader has, and of the text that goes on with these bytes
abbrev pub words_on : Words → (more : List ℕ) → List Word
words_on words more = words_from words.line words.word.items more

-- the same where the reader's word has ended, if that is said with its line
abbrev pub with_ended : (ended : Option ℕ) → Words → (more : List ℕ) → List Word
with_ended None words more = words_on words more
with_ended (Some line) words more =
    record { text = words.word.items; line = line } ∷ words_from words.line [] more

-- the words that end with a blank in a text
abbrev pub whole_words : (line : ℕ) → (word : List ℕ) → (text : List ℕ) → List Word
whole_words line word [] = []
whole_words line word (b ∷ bs) = words_by (is_blank b) line word b (λ l w. whole_words l w bs)

-- what is open after a byte, and its line
abbrev pub after_by : (blank : Bool) → (line : ℕ) → (word : List ℕ) → (byte : ℕ)
    → (others : (line : ℕ) → (word : List ℕ) → Word) → Word
after_by true line word b others = others (line_after line b) []
after_by false line word b others = others line (kept word b)

-- what is open at the end of a text
abbrev pub after : (line : ℕ) → (word : List ℕ) → (text : List ℕ) → Word
after line word [] = record { text = word; line = line }
after line word (b ∷ bs) = after_by (is_blank b) line word b (λ l w. after l w bs)
