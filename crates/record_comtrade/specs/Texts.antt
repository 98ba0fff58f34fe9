-- The lines of a configuration, and what a reader of one has.
-- Source: IEEE C37.111-2013, 5.3; that a byte order mark is left out is this project's profile.
use Rattle.std.specs.Prelude.{ℕ, if◌then◌else◌, List, [], ◌∷◌, ◌++◌, map, nat_eq, Option}
use Rattle.record_text.specs.Lines.{Line, lines_of, lines_on, with_line, without_mark}
use Rattle.record_comtrade.specs.declared.text.Text.{Text}
use Rattle.record_comtrade.specs.declared.reading.ConfigText.{ConfigText}

-- the bytes of some texts
abbrev pub texts_of : List Text → List (List ℕ)
texts_of texts = map (λ text. text.bytes.items) texts

-- the text of a line; the first one may begin with a mark
abbrev pub text_on : (number : ℕ) → (text : List ℕ) → List ℕ
text_on number text = if nat_eq number 1 then without_mark text else text

-- the text of a line; of the first one without the mark
abbrev pub text_of : Line → List ℕ
text_of line = text_on line.number line.text

-- the lines of a text
abbrev pub config_lines : (bytes : List ℕ) → List (List ℕ)
config_lines bytes = map text_of (lines_of bytes)

-- those that a reader has and will have, if these are the bytes that follow, up to the end of the text
abbrev pub lines_to_come : ConfigText → (more : List ℕ) → List (List ℕ)
lines_to_come read more = texts_of read.texts.items ++ map text_of (lines_on read.lines more)

-- the same where the reader's line has ended, if that is said with its number
abbrev pub lines_with : (ended : Option ℕ) → ConfigText → (more : List ℕ) → List (List ℕ)
lines_with ended read more = texts_of read.texts.items ++ map text_of (with_line ended read.lines more)
