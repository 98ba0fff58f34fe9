-- Which form a recording has.
-- Source: this project's profile; a value change dump begins with a word of $ (IEEE 1364-2005, 18.2.1).
use Rattle.std.specs.Prelude.{ℕ, ◌==◌, Bool, false, ◌||◌, not, List, [], ◌∷◌}
use Rattle.std.specs.Char.{is_ascii_whitespace}

-- a value change dump may begin with this byte: a $ or a blank
abbrev pub is_of_dump : (byte : ℕ) → Bool
is_of_dump b = b == 36 || is_ascii_whitespace b

-- a text begins as a value change dump
abbrev pub begins_dump : (text : List ℕ) → Bool
begins_dump [] = false
begins_dump (b ∷ bs) = is_of_dump b

-- any other text is read as a table, if there is one
abbrev pub begins_table : (text : List ℕ) → Bool
begins_table [] = false
begins_table (b ∷ bs) = not (is_of_dump b)
