-- The lines of a single file that begin a section.
-- Source: IEEE C37.111-2013, 8: `--- file type: CFG ---`, `--- file type: DAT ASCII ---`,
-- `--- file type: DAT BINARY: 172 ---`, the last with the number of bytes. That letters may be of either case, and
-- where blanks may stand, is this project's profile.
use Rattle.std.specs.Prelude.{ℕ, ◌+◌, Bool, true, false, if◌then◌else◌, List, [], ◌∷◌, length, take, drop, codes, Option, Some, None, nat_eq, nat_lt}
use Rattle.std.specs.Char.{is_ascii_whitespace}
use Rattle.std.specs.Str.{str_eq_ignore_ascii_case}
use Rattle.record_text.specs.Fields.{trimmed}
use Rattle.record_text.specs.Numbers.{number as number_of}
use Rattle.record_single.specs.declared.section.Section.{Section}
use Rattle.record_single.specs.declared.section.Section.TheVariants.{Config, Samples, Other}

-- how many bytes stand before the first one that is this
abbrev pub place_in : (byte : ℕ) → (text : List ℕ) → ℕ
place_in byte [] = 0
place_in byte (b ∷ bs) = if nat_eq b byte then 0 else place_in byte bs + 1

-- what stands behind a word, in letters of either case, if a text begins so
abbrev pub after_word : (text word : List ℕ) → Option (List ℕ)
after_word text word =
    if nat_lt (length text) (length word) then None
    else (if str_eq_ignore_ascii_case (take (length word) text) word then Some (drop (length word) text) else None)

-- a text, if something stands behind it
abbrev pub if_behind : Option (List ℕ) → (text : List ℕ) → Option (List ℕ)
if_behind None text = None
if_behind (Some rest) text = Some text

-- what stands before the first dash, if that is the first of three
abbrev pub before_dashes : Option (List ℕ) → Option (List ℕ)
before_dashes None = None
before_dashes (Some text) =
    if_behind (after_word (drop (place_in 45 text) text) (codes "---")) (take (place_in 45 text) text)

-- what stands between the three dashes at the beginning of a line and three others
abbrev pub between_dashes : (line : List ℕ) → Option (List ℕ)
between_dashes line = before_dashes (after_word line (codes "---"))

-- a word ends a text, or a blank stands behind it
abbrev pub ends_word : Option (List ℕ) → Bool
ends_word None = false
ends_word (Some []) = true
ends_word (Some (b ∷ bs)) = is_ascii_whitespace b

-- the first word of a text is this one
abbrev pub is_of : (text word : List ℕ) → Bool
is_of text word = ends_word (after_word text word)

-- the section of that name, with the number of its bytes, if there is one
abbrev pub section_with : (name : List ℕ) → (count : Option ℕ) → Section
section_with name count =
    if is_of name (codes "CFG") then Config else (if is_of name (codes "DAT") then Samples count else Other)

-- the same where a number is needed
abbrev pub with_count : (name : List ℕ) → (count : Option ℕ) → Option Section
with_count name None = None
with_count name (Some count) = Some (section_with name (Some count))

-- of a name and what stands behind it: nothing, or a colon and a number
abbrev pub section_named : (name behind : List ℕ) → Option Section
section_named name [] = Some (section_with name None)
section_named name (b ∷ bs) = with_count name (number_of (trimmed bs))

-- the section of this kind, as DAT BINARY: 172
abbrev pub section_by : (kind : List ℕ) → Option Section
section_by kind = section_named (take (place_in 58 kind) kind) (drop (place_in 58 kind) kind)

-- the same behind the words
abbrev pub section_behind : Option (List ℕ) → Option Section
section_behind None = None
section_behind (Some kind) = section_by (trimmed kind)

-- the same between the dashes
abbrev pub section_in : Option (List ℕ) → Option Section
section_in None = None
section_in (Some text) = section_behind (after_word (trimmed text) (codes "file type:"))

-- the section that a line begins, if it begins one
abbrev pub section_of : (line : List ℕ) → Option Section
section_of line = section_in (between_dashes line)
