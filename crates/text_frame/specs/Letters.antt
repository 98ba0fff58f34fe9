-- Symbols as text.
-- Source: docs/FRAME.md, as text.
use Rattle.std.specs.Prelude.{◌≡◌, ℕ, ◌==◌, not, List, filter, map}
use Rattle.irig_frame.specs.declared.symbol.Symbol.{Symbol}
use Rattle.irig_frame.specs.Symbols.{letter_of}

-- 32 is the blank
abbrev pub without_blanks : List ℕ → List ℕ
without_blanks text = filter (λ letter. not (letter == 32)) text

-- the text is the letters of the symbols, with blanks wherever they stand
abbrev pub Shows : List ℕ → List Symbol → Type 0
Shows text symbols = without_blanks text ≡ map letter_of symbols

-- a text with a letter of no symbol
abbrev pub ShowsNoSymbols : List ℕ → Type 0
ShowsNoSymbols text = (symbols : List Symbol) → ¬ Shows text symbols
