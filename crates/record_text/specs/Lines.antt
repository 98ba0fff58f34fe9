-- The lines of a text, each with its number.
-- Source: this project's profile. A line ends with CR LF, with LF or with CR.
use Rattle.std.specs.Prelude.{ℕ, ◌+◌, ◌-◌, ◌^◌, Bool, true, false, ◌&&◌, ◌||◌, if◌then◌else◌, List, [], ◌∷◌, ◌++◌, length, Option, Some, None, nat_eq, nat_lt}
use Rattle.record_text.specs.declared.lines.Lines.{Lines}

-- a line without its end, and its number, from 1
pub record Line : Type 0 where
  pub text : List ℕ
  pub number : ℕ

-- a text without the byte order mark at its beginning
abbrev pub without_mark : (text : List ℕ) → List ℕ
without_mark [] = []
without_mark (a ∷ []) = a ∷ []
without_mark (a ∷ b ∷ []) = a ∷ b ∷ []
without_mark (a ∷ b ∷ c ∷ rest) =
    if nat_eq a 239 && nat_eq b 187 && nat_eq c 191 then rest else a ∷ b ∷ c ∷ rest

-- a line with one byte more, of which the first 1,024 are kept
abbrev pub kept_of_line : (text : List ℕ) → (byte : ℕ) → List ℕ
kept_of_line text b = if nat_lt (length text) 1024 then text ++ b ∷ [] else text

-- the next number; it stays at 2^64 - 1
abbrev pub next_number : ℕ → ℕ
next_number n = if nat_lt n (2 ^ 64 - 1) then n + 1 else n

-- a byte is CR
abbrev pub is_cr : (byte : ℕ) → Bool
is_cr b = nat_eq b 13

-- the LF of a CR LF
abbrev pub is_rest : (after_cr : Bool) → (byte : ℕ) → Bool
is_rest after_cr b = nat_eq b 10 && after_cr

-- a byte ends a line: LF or CR
abbrev pub ends_line : (byte : ℕ) → Bool
ends_line b = nat_eq b 10 || nat_eq b 13

-- a line that the end of the text ends, if it has bytes
abbrev pub line_on : (number : ℕ) → (text : List ℕ) → List Line
line_on number [] = []
line_on number (b ∷ bs) = record { text = b ∷ bs; number = number } ∷ []

-- an LF after a CR is of the end before it, a CR or LF ends a line, and each other byte is of it; the others
-- are the lines from there on
abbrev pub lines_by : (rest ends : Bool) → (number : ℕ) → (text : List ℕ) → (byte : ℕ)
    → (others : (number : ℕ) → (text : List ℕ) → List Line) → List Line
lines_by true ends number text b others = others number text
lines_by false true number text b others = record { text = text; number = number } ∷ others (next_number number) []
lines_by false false number text b others = others number (kept_of_line text b)

-- the lines of a text that goes on after a CR or not, and after the beginning of the line of that number
abbrev pub lines_from : (after_cr : Bool) → (number : ℕ) → (text : List ℕ) → (bytes : List ℕ) → List Line
lines_from after_cr number text [] = line_on number text
lines_from after_cr number text (b ∷ bs) =
    lines_by (is_rest after_cr b) (ends_line b) number text b (λ n t. lines_from (is_cr b) n t bs)

-- the lines of a text
abbrev pub lines_of : (bytes : List ℕ) → List Line
lines_of bytes = lines_from false 1 [] bytes

-- those of what a reader has, and of the text that goes on with these bytes
abbrev pub lines_on : Lines → (more : List ℕ) → List Line
lines_on lines more = lines_from lines.is_after_cr lines.number lines.text.items more

-- the same where the reader's line has ended, if that is said with its number
abbrev pub with_line : (ended : Option ℕ) → Lines → (more : List ℕ) → List Line
with_line None lines more = lines_on lines more
with_line (Some number) lines more =
    record { text = lines.text.items; number = number } ∷ lines_from lines.is_after_cr lines.number [] more
