-- Which symbols a port stands for: those since it was last empty, cut at 101.
-- Source: docs/READER.md; this project's profile.
use Rattle.std.specs.Prelude.{ℕ, List, [], ◌∷◌, ◌++◌, nat_lt, length, take, map, if◌then◌else◌}
use Rattle.irig_frame.specs.declared.symbol.Symbol.{Symbol}
use Rattle.irig_frame.specs.Symbols.{symbol_of}

-- one more symbol, while there is room
abbrev pub with_symbol : List Symbol → Symbol → List Symbol
with_symbol s x = if nat_lt (length s) 101 then s ++ x ∷ [] else s

-- the symbols of some widths
abbrev pub symbols_of : List ℕ → List Symbol
symbols_of widths = map symbol_of widths

-- what a port stands for that was fed these widths
abbrev pub symbols_heard : List ℕ → List Symbol
symbols_heard widths = take 101 (symbols_of widths)
