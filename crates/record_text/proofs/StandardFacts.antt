-- Words and numbers at known values.
use Rattle.std.proofs.Common.{◌≡◌, ℕ, List, [], ◌∷◌, ◌++◌, Some, None, refl}
use Rattle.std.specs.Prelude.{codes}
use Rattle.record_text.specs.Decimals.{millionths, places_in}
use Rattle.record_text.specs.Fields.{field}
use Rattle.record_text.specs.Lines.{Line, lines_of}
use Rattle.record_text.specs.Numbers.{number}
use Rattle.record_text.specs.Words.{Word, after, words_of}

abbrev on : ℕ → List ℕ → Word
on line text = record { text = text; line = line }

-- blanks of six kinds; the text ends the last word
pub known_words : words_of (codes " one  two" ++ 10 ∷ 13 ∷ 10 ∷ 9 ∷ codes "3" ++ 11 ∷ codes "4" ++ 12 ∷ codes "5")
    ≡ on 1 (codes "one") ∷ on 1 (codes "two") ∷ on 3 (codes "3") ∷ on 3 (codes "4") ∷ on 3 (codes "5") ∷ []
known_words = refl

pub known_none : (words_of [] ≡ []) × (words_of (32 ∷ 10 ∷ []) ≡ [])
known_none = (refl, refl)

-- what is open after a piece
pub known_open : after 1 [] (codes "one t") ≡ on 1 (codes "t")
known_open = refl

pub known_numbers : (number (codes "007") ≡ Some 7) × (number (codes "18446744073709551615") ≡ Some 18446744073709551615)
    × (number (codes "18446744073709551616") ≡ None) × (number (codes "1_0") ≡ None) × (number (codes "-1") ≡ None) × (number [] ≡ None)
known_numbers = (refl, refl, refl, refl, refl, refl)

-- ends of three kinds, an empty line, and one that the text ends
abbrev line : ℕ → List ℕ → Line
line number text = record { text = text; number = number }

pub known_lines : lines_of (codes "a" ++ 13 ∷ 10 ∷ codes "b" ++ 13 ∷ codes "c" ++ 10 ∷ 10 ∷ codes "d")
    ≡ line 1 (codes "a") ∷ line 2 (codes "b") ∷ line 3 (codes "c") ∷ line 4 [] ∷ line 5 (codes "d") ∷ []
known_lines = refl

pub known_fields : (field 0 (codes " a , b c") ≡ codes "a") × (field 1 (codes " a , b c") ≡ codes "b c") × (field 2 (codes " a , b c") ≡ [])
known_fields = (refl, refl, refl)

pub known_millionths : (millionths (codes "4800") ≡ Some 4800000000) × (millionths (codes "4798.7654321") ≡ None) × (millionths (codes "0.0000010") ≡ Some 1)
    × (millionths (codes "18446744073709.551615") ≡ Some 18446744073709551615) × (millionths (codes "18446744073709.551616") ≡ None)
    × (millionths (codes "1e3") ≡ None) × (millionths (codes ".5") ≡ None) × (millionths (codes "-1") ≡ None) × (millionths [] ≡ None) × (places_in (codes "09:30:00.1234567") ≡ 7)
known_millionths = (refl, refl, refl, refl, refl, refl, refl, refl, refl, refl)
