-- The cells of a row.
-- Source: this project's profile; commas part cells, as in RFC 4180, and none stands within quotes.
use Rattle.std.specs.Prelude.{ℕ, ◌+◌, ◌-◌, Bool, true, false, ◌&&◌, ◌||◌, if◌then◌else◌, List, [], ◌∷◌, length, take, codes, slice_index_or, Option, Some, None, nat_eq, nat_lt}
use Rattle.std.specs.Str.{bytes_eq}

-- a cell that begins with a quote: without it and the one at its end, if there is one
abbrev pub unquoted_by : (inner cell : List ℕ) → List ℕ
unquoted_by inner cell =
    if nat_lt 0 (length inner) && nat_eq (slice_index_or inner (length inner - 1) 0) 34
    then take (length inner - 1) inner else cell

-- a cell without the quotes in which it stands
abbrev pub unquoted : (cell : List ℕ) → List ℕ
unquoted [] = []
unquoted (b ∷ bs) = if nat_eq b 34 then unquoted_by bs (b ∷ bs) else b ∷ bs

-- the level that a cell says, maybe in quotes
abbrev pub level_of : (cell : List ℕ) → Option Bool
level_of cell =
    if bytes_eq (unquoted cell) (codes "0") then Some false
    else (if bytes_eq (unquoted cell) (codes "1") then Some true else None)

-- how many cells a text has: one more than commas
abbrev pub columns_in : (text : List ℕ) → ℕ
columns_in [] = 1
columns_in (b ∷ bs) = if nat_eq b 44 then columns_in bs + 1 else columns_in bs

-- how many bytes stand before the first one that is one of two
abbrev pub before : (first second : ℕ) → (text : List ℕ) → ℕ
before first second [] = 0
before first second (b ∷ bs) = if nat_eq b first || nat_eq b second then 0 else before first second bs + 1
