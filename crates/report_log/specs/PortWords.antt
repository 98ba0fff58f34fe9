-- What a port line says, by its words.
-- Source: docs/OUTPUT.md, what each port told.
use Rattle.std.specs.Prelude.{◌≡◌, ◌≢◌, ℕ, ◌^◌, ◌*◌, ◌<◌, nat_lt, nat_le, ◌&&◌, ◌||◌, Bool, false, List, [], ◌∷◌, ◌++◌, length, count_by, codes, All}
use Rattle.std.specs.List.{flat_map, list_any}
use Rattle.std.specs.Str.{bytes_eq}
use Rattle.std.specs.Fmt.{decimal}
use Rattle.report_log.specs.Text.{name_at}
use Rattle.report_log.specs.LogLines.{Shows}

-- ---- lines

-- an entry line that ends in LOCK locked and CAUSE voted: it shows this time by a vote
pub record ShowsVoted (names : List (List ℕ)) (line : List ℕ) (reader edge : ℕ) (time : List ℕ)
    : Type 0 where
  pub shows : Shows names line reader edge time
  pub voted : shows.more ≡ codes "locked voted"

-- words, each after a blank, 32
abbrev pub after_blanks : List (List ℕ) → List ℕ
after_blanks words = flat_map (λ word. 32 ∷ word) words

-- a port line, a blank and EDGE READER WORD WORD WORD: these are its words for this edge of this
-- reader, and none has a blank in it
pub record ShowsWords (names : List (List ℕ)) (line : List ℕ) (reader edge : ℕ)
    (words : List (List ℕ)) : Type 0 where
  pub number : edge < 2 ^ 64
  pub named : reader < length names
  pub apart : All (All (λ b. b ≢ 32)) words
  pub is : line ≡ 32 ∷ (decimal edge ++ (32 ∷ (name_at names reader ++ after_blanks words)))

-- ---- words

-- whether it begins with a digit, 48 to 57
abbrev pub begins_with_digit : List ℕ → Bool
begins_with_digit [] = false
begins_with_digit (b ∷ bs) = nat_le 48 b && nat_le b 57

-- what is said of a leap second
abbrev pub mark_words : List (List ℕ)
mark_words = codes "unspoken" ∷ codes "no-leap" ∷ codes "insert" ∷ codes "delete" ∷ []

-- whether a word is a second, or a mark: an untrue claim
abbrev pub is_second_or_mark : List ℕ → Bool
is_second_or_mark word = begins_with_digit word || list_any (bytes_eq word) mark_words

-- whether more than half of the words, two of three or three of five, are one and the same second
-- or mark
abbrev pub has_false_majority : List (List ℕ) → Bool
has_false_majority words =
    list_any (λ word.
    is_second_or_mark word && nat_lt (length words) (2 * count_by (bytes_eq word) words)) words
