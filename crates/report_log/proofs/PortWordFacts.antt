-- Which words have a false majority, and which have none; how a port line reads, and how not.
use Rattle.std.proofs.Common.{◌≡◌, ◌≢◌, ℕ, zero, suc, true, false, List, [], ◌∷◌, length, All, refl, ap, ◌∙◌, arith, codes}
use Rattle.std.specs.Prelude.{slice_get, unwrap_or}
use Rattle.std.specs.List.{AllByRecursion}
use Rattle.std.specs.Fmt.{digits, decimal}
use Rattle.std.proofs.lemmas.List.Elements.{recursion_from_All, All-from_recursion}
use Rattle.report_log.specs.Text.{name_at}
use Rattle.report_log.specs.PortWords.{ShowsVoted, ShowsWords, is_second_or_mark, has_false_majority}
use Rattle.report_log.proofs.WordLaws.{decimal_word}
use Rattle.report_log.proofs.LogLaws.{NoBlank, word_no_blank, split}

-- ---- words

abbrev early : List ℕ
early = codes "2017-06-30T23:59:52Z"

abbrev late : List ℕ
late = codes "2017-06-30T23:59:57Z"

abbrev ok : List ℕ
ok = codes "ok"

abbrev insert : List ℕ
insert = codes "insert"

-- seconds and marks are untrue claims, and nothing else is
untrue_words : (is_second_or_mark late ≡ true) × (is_second_or_mark insert ≡ true) × (is_second_or_mark (codes "unspoken") ≡ true)
    × (is_second_or_mark (codes "no-leap") ≡ true) × (is_second_or_mark (codes "delete") ≡ true)
untrue_words = (refl, refl, refl, refl, refl)

other_words : (is_second_or_mark ok ≡ false) × (is_second_or_mark (codes "silence") ≡ false) × (is_second_or_mark (codes "poor:12") ≡ false)
    × (is_second_or_mark (codes "fault:3:Pulse:17") ≡ false) × (is_second_or_mark [] ≡ false)
other_words = (refl, refl, refl, refl, refl)

-- two of three, and three of five
misled : (has_false_majority (late ∷ ok ∷ late ∷ []) ≡ true) × (has_false_majority (insert ∷ insert ∷ late ∷ []) ≡ true) × (has_false_majority (ok ∷ late ∷ late ∷ ok ∷ late ∷ []) ≡ true)
misled = (refl, refl, refl)

-- one of three, two that differ, two of five, two true ones, and two that claim nothing
not_misled : (has_false_majority (late ∷ ok ∷ ok ∷ []) ≡ false) × (has_false_majority (late ∷ early ∷ insert ∷ []) ≡ false) × (has_false_majority (late ∷ late ∷ early ∷ early ∷ ok ∷ []) ≡ false)
    × (has_false_majority (ok ∷ ok ∷ ok ∷ []) ≡ false) × (has_false_majority (codes "silence" ∷ codes "silence" ∷ late ∷ []) ≡ false)
not_misled = (refl, refl, refl, refl, refl)

-- ---- lines

abbrev names : List (List ℕ)
names = codes "relay" ∷ codes "recorder" ∷ []

abbrev line : List ℕ
line = codes " 5 relay ok 2017-06-30T23:59:57Z ok"

no_blank : (word : List ℕ) → AllByRecursion (λ b. b ≢ 32) word → All (λ b. b ≢ 32) word
no_blank word h = All-from_recursion (λ b. b ≢ 32) word h

known_words : ShowsWords names line 0 5 (ok ∷ late ∷ ok ∷ [])
unfolding digits
known_words = record {
  number = omega arith;
  named = omega arith;
  apart = All-from_recursion (All (λ b. b ≢ 32)) (ok ∷ late ∷ ok ∷ []) (no_blank ok (search arith), (no_blank late (search arith), (no_blank ok (search arith), tt)));
  is = refl;
}

-- an entry line is no port line
no_port_line : (r n : ℕ) (words : List (List ℕ)) → ¬ ShowsWords names (codes "5 relay 2017-06-30T23:59:53Z locked voted") r n words
no_port_line r n words h = omega (arith, ap (λ (l : List ℕ). unwrap_or (slice_get l 0) 0) h.is)

abbrev voted : List ℕ
voted = codes "5 relay 2017-06-30T23:59:53Z locked voted"

abbrev held : List ℕ
held = codes "5 relay 2017-06-30T23:59:53Z holdover:1 held"

abbrev time : List ℕ
time = codes "2017-06-30T23:59:53Z"

known_vote : ShowsVoted names voted 0 5 time
unfolding digits
known_vote = record { shows = record { number = omega arith; named = omega arith; word = no_blank time (search arith); more = codes "locked voted"; is = refl }; voted = refl }

name_apart : (r : ℕ) → NoBlank (name_at names r)
name_apart zero = search arith
name_apart (suc zero) = search arith
name_apart (suc (suc r)) = tt

-- a held second is shown by no vote
no_vote : (r n : ℕ) (other : List ℕ) → ¬ ShowsVoted names held r n other
no_vote r n other h =
    let edges = split (codes "5") (decimal n) _ _ (search arith) (word_no_blank (decimal n) (decimal_word n)) h.shows.is in
    let readers = split (codes "relay") (name_at names r) _ _ (search arith) (name_apart r) edges.1 in
    let times = split time other _ _ (search arith) (recursion_from_All (λ b. b ≢ 32) other h.shows.word) readers.1 in
    let more : codes "holdover:1 held" ≡ codes "locked voted" = times.1 ∙ h.voted in
    omega (arith, ap length more)
