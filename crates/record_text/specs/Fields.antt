-- The fields of a line, which commas part.
-- Source: IEEE C37.111-2013, 5.3 (each field is ended by a comma); that blanks round it are left out is this
-- project's profile.
use Rattle.std.specs.Prelude.{ℕ, zero, suc, ◌+◌, ◌-◌, if◌then◌else◌, List, [], ◌∷◌, length, take, drop, nat_eq}
use Rattle.std.specs.Char.{is_ascii_whitespace}
use Rattle.std.specs.List.{prefix_len, suffix_len}

-- a text without the blanks at its beginning: spaces, tabs, ends of lines and pages
abbrev pub without_front : (text : List ℕ) → List ℕ
without_front text = drop (prefix_len is_ascii_whitespace text) text

-- and without those at its end
abbrev pub trimmed : (text : List ℕ) → List ℕ
trimmed text = take (length (without_front text) - suffix_len is_ascii_whitespace (without_front text)) (without_front text)

-- how many bytes stand before the first comma
abbrev pub comma_in : (text : List ℕ) → ℕ
comma_in [] = 0
comma_in (b ∷ bs) = if nat_eq b 44 then 0 else comma_in bs + 1

-- what stands after the first comma
abbrev pub after_comma : (text : List ℕ) → List ℕ
after_comma text = drop (comma_in text + 1) text

-- the field at a place, from 0; an empty one after the last
abbrev pub field : (place : ℕ) → (line : List ℕ) → List ℕ
field zero line = trimmed (take (comma_in line) line)
field (suc n) line = field n (after_comma line)
