-- Remarks of a table, and what they say.
-- Source: sigrok's output of tables (; Samplerate: 1 MHz, ; Channels (..): left, right), and this project's profile.
use Rattle.std.specs.Prelude.{ℕ, Bool, false, ◌&&◌, ◌||◌, if◌then◌else◌, List, [], ◌∷◌, length, take, drop, codes, Option, Some, None, nat_eq, nat_lt}
use Rattle.std.specs.Str.{str_eq_ignore_ascii_case}
use Rattle.record_text.specs.Fields.{trimmed}
use Rattle.record_cells.specs.Cells.{before}

-- the sign of a remark: ; # or %
abbrev pub is_sign : (byte : ℕ) → Bool
is_sign b = nat_eq b 59 || nat_eq b 35 || nat_eq b 37

-- a line begins with META
abbrev pub begins_meta : (line : List ℕ) → Bool
begins_meta [] = false
begins_meta (a ∷ []) = false
begins_meta (a ∷ b ∷ []) = false
begins_meta (a ∷ b ∷ c ∷ []) = false
begins_meta (a ∷ b ∷ c ∷ d ∷ rest) = nat_eq a 77 && nat_eq b 69 && nat_eq c 84 && nat_eq d 65

-- a line begins as a remark does
abbrev pub begins_remark : (line : List ℕ) → Bool
begins_remark [] = false
begins_remark (b ∷ bs) = is_sign b || begins_meta (b ∷ bs)

-- a text has no bytes
abbrev pub is_empty : (text : List ℕ) → Bool
is_empty text = nat_eq (length text) 0

-- a line is a remark, or has blanks alone
abbrev pub is_remark : (line : List ℕ) → Bool
is_remark line = begins_remark line || is_empty (trimmed line)

-- what stands behind META
abbrev pub behind_meta : (line : List ℕ) → List ℕ
behind_meta [] = []
behind_meta (a ∷ []) = []
behind_meta (a ∷ b ∷ []) = []
behind_meta (a ∷ b ∷ c ∷ []) = []
behind_meta (a ∷ b ∷ c ∷ d ∷ rest) = if nat_eq a 77 && nat_eq b 69 && nat_eq c 84 && nat_eq d 65 then rest else []

-- what a remark says behind its sign
abbrev pub said_in : (line : List ℕ) → List ℕ
said_in [] = trimmed []
said_in (b ∷ bs) = if is_sign b then trimmed bs else trimmed (behind_meta (b ∷ bs))

-- what stands behind a word at the beginning of a text, if it begins so, in capitals or not
abbrev pub after_word : (text word : List ℕ) → Option (List ℕ)
after_word text word =
    if nat_lt (length text) (length word) then None
    else (if str_eq_ignore_ascii_case (take (length word) text) word then Some (trimmed (drop (length word) text)) else None)

-- the text of the rate of samples, if a remark says one
abbrev pub rate_text : (line : List ℕ) → Option (List ℕ)
rate_text line = after_word (said_in line) (codes "samplerate:")

-- a list behind a bracket and a colon
abbrev pub behind_end : (text : List ℕ) → Option (List ℕ)
behind_end [] = None
behind_end (a ∷ []) = None
behind_end (a ∷ b ∷ list) = if nat_eq a 41 && nat_eq b 58 then Some list else None

-- what stands behind the first bracket that ends, and a colon
abbrev pub behind_bracket : (text : List ℕ) → Option (List ℕ)
behind_bracket text = behind_end (drop (before 41 41 text) text)

-- the same of what may be there
abbrev pub list_by : (text : Option (List ℕ)) → Option (List ℕ)
list_by (Some text) = behind_bracket text
list_by None = None

-- the names that a remark lists, as ; Channels (..): left, right
abbrev pub list_text : (line : List ℕ) → Option (List ℕ)
list_text line = list_by (after_word (said_in line) (codes "channels ("))
