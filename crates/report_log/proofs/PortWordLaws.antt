-- The words of a port line: what an untrue claim is shown as, that `ok` is the true one, and that a
-- line has one list of them.
use Rattle.std.proofs.Common.{◌≡◌, ◌≢◌, ◌↔◌, ℕ, ◌+◌, ◌*◌, ◌/◌, ◌%◌, ◌^◌, ◌<◌, ◌≤◌, nat_lt, ◌&&◌, ◌||◌, Bool, true, false, cond, List, [], ◌∷◌, ◌++◌, length, map, All, Option, Some, None, refl, ap, sym, subst, ◌∙◌, append-nil, arith, codes, inl, inr, ◌⊎◌}
use Rattle.std.specs.Prelude.{nat_le, count_by, slice_get, unwrap_or}
use Rattle.std.specs.List.{AllByRecursion, list_any}
use Rattle.std.specs.Str.{bytes_eq}
use Rattle.std.specs.Fmt.{decimal}
use Rattle.std.proofs.lemmas.Bool.{cases_Bool, false≢true, both_ways, lt-ltb, le-leb}
use Rattle.std.proofs.lemmas.Fmt.{decimal_injective}
use Rattle.std.proofs.lemmas.Int.{ints}
use Rattle.std.proofs.lemmas.List.{length-append, length-map}
use Rattle.std.proofs.lemmas.List.Elements.{recursion_from_All, All-from_recursion}
use Rattle.std.proofs.lemmas.List.Folds.{flat_map-map}
use Rattle.std.proofs.lemmas.List.Sums.{sum_by-cons}
use Rattle.std.proofs.lemmas.Slice.Eq.{bytes_eq-Decides}
use Rattle.irig_time.specs.declared.second.UtcSecond.{UtcSecond}
use Rattle.irig_time.specs.declared.claim.Claim.{Claim}
use Rattle.irig_time.specs.declared.mark.Mark.{Mark}
use Rattle.irig_time.specs.declared.mark.Mark.TheVariants.{Unspoken, NoLeap, Insert, Delete}
use Rattle.irig_time.specs.Claims.{same_claim, same_mark}
use Rattle.irig_time.specs.MarkWords.{mark_word}
use Rattle.irig_time.specs.Seconds.{IsValid, minute_of, second_of, same_second}
use Rattle.irig_time.specs.Texts.{date_text, time_text}
use Rattle.irig_time.specs.TextValues.{day_text, second_text}
use Rattle.irig_time.specs.Timelines.{TimelineValue, IsTrueClaim, truth_at}
use Rattle.irig_time.proofs.SecondAt.{claim_is}
use Rattle.irig_time.proofs.TextValueLaws.{day_text_spells}
use Rattle.irig_port.specs.declared.told.Told.{Told}
use Rattle.irig_port.specs.declared.told.Told.TheVariants as tells
use Rattle.irig_vote.specs.declared.redundancy.Redundancy.{Redundancy}
use Rattle.irig_vote.specs.declared.redundancy.Redundancy.TheVariants.{One, Three, Five}
use Rattle.irig_vote.specs.declared.votes.Tells.{Tells}
use Rattle.irig_vote.specs.Vote.{f_of, ports_of, is_told, carriers, IsOfUtc, AreOfUtc}
use Rattle.irig_vote.proofs.CountLaws.{carriers-cons, none_of, told_is, same_is, same_itself}
use Rattle.irig_reader.specs.Clean.{IsClean}
use Rattle.irig_plant.specs.declared.event.Event.{Event}
use Rattle.irig_plant.specs.Schedule.{Setup, ticks_of, entry_of}
use Rattle.irig_plant.specs.declared.entry.Entry.{Entry}
use Rattle.report_log.specs.Text.{name_at, claim_word, port_word, port_line}
use Rattle.report_log.specs.PortWords.{after_blanks, ShowsWords, begins_with_digit, mark_words, is_second_or_mark, has_false_majority}
use Rattle.report_log.proofs.WordLaws.{AreNames, decimal_word, name_is_word, name_of_one}
use Rattle.report_log.proofs.LogLaws.{NoBlank, word_no_blank, split}
use Rattle.report_log.proofs.RowLaws.{told_word, port_row, row_of_ports}

-- ---- a second begins with a digit

digit_by : (b : ℕ) → 48 ≤ b → b ≤ 57 → (nat_le 48 b && nat_le b 57) ≡ true
digit_by b low high = rw (le-leb 48 b low, le-leb b 57 high) refl

year_digit : (y m d : ℕ) (rest : List ℕ) → y ≤ 9999 → begins_with_digit (date_text y m d ++ rest) ≡ true
year_digit y m d rest high = digit_by (48 + y / 100 / 10) (omega arith) (omega (arith, high))

day_digit : (day : ℕ) (rest : List ℕ) → day ≤ 36524 → begins_with_digit (day_text day ++ rest) ≡ true
day_digit day rest most =
    let spells = day_text_spells day most in
    let high : spells.year ≤ 9999 = omega (arith, ints, spells.date.0.0.1) in
    rw spells.text (year_digit spells.year spells.month spells.day_of_month rest high)

pub second_digit : (u : UtcSecond) → IsValid u → begins_with_digit (second_text u) ≡ true
unfolding second_text
second_digit u valid = day_digit u.day (time_text (minute_of u / 60) (minute_of u % 60) (second_of u)) (omega (arith, valid.day.1))

-- ---- an untrue claim is a second or a mark

or_first : (a b : Bool) → a ≡ true → (a || b) ≡ true
or_first a b h = rw h refl

second_is_shown : (u : UtcSecond) → IsValid u → is_second_or_mark (second_text u) ≡ true
second_is_shown u valid = or_first (begins_with_digit (second_text u)) (list_any (bytes_eq (second_text u)) mark_words) (second_digit u valid)

mark_is_shown : (mark : Mark) → is_second_or_mark (mark_word mark) ≡ true
mark_is_shown Unspoken = refl
mark_is_shown NoLeap = refl
mark_is_shown Insert = refl
mark_is_shown Delete = refl

untrue_is_shown : (truth : Option Claim) (c : Claim) → IsValid c.at → ¬ (truth ≡ Some c) → is_second_or_mark (claim_word truth c) ≡ true
untrue_is_shown None c valid untrue = second_is_shown c.at valid
untrue_is_shown (Some t) c valid untrue =
    elim (cases_Bool (same_second c.at t.at)) [
      | inr other ↦ rw other (second_is_shown c.at valid)
      | inl second ↦ elim (cases_Bool (same_mark c.mark t.mark)) [
        | inr other ↦ rw (second, other) (mark_is_shown c.mark)
        | inl mark ↦
            let same : same_claim c t ≡ true = rw (second, mark) refl in
            absurd (untrue (ap (λ (x : Claim). let o : Option Claim = Some x in o) (sym (same_is c t same))))
      ]
    ]

-- ---- a true one is `ok`, and nothing else is

-- a port told the true claim
abbrev pub ToldTruth : Option Claim → Told → Type 0
ToldTruth truth told = (c : Claim) × (told ≡ tells.Claim c) × (truth ≡ Some c)

second_is_long : (u : UtcSecond) → second_text u ≢ codes "ok"
unfolding second_text
second_is_long u is =
    let time = time_text (minute_of u / 60) (minute_of u % 60) (second_of u) in
    omega (arith, ap length is, length-append (day_text u.day) time)

mark_not_ok : (mark : Mark) → mark_word mark ≢ codes "ok"
mark_not_ok Unspoken e = omega (arith, ap length e)
mark_not_ok NoLeap e = omega (arith, ap length e)
mark_not_ok Insert e = omega (arith, ap length e)
mark_not_ok Delete e = omega (arith, ap length e)

claim_ok : (truth : Option Claim) (c : Claim) → claim_word truth c ≡ codes "ok" → truth ≡ Some c
claim_ok None c is = absurd (second_is_long c.at is)
claim_ok (Some t) c is =
    elim (cases_Bool (same_second c.at t.at)) [
      | inr other ↦ let word : second_text c.at ≡ codes "ok" = rw other at is in absurd (second_is_long c.at word)
      | inl second ↦ elim (cases_Bool (same_mark c.mark t.mark)) [
        | inr other ↦ let word : mark_word c.mark ≡ codes "ok" = rw (second, other) at is in absurd (mark_not_ok c.mark word)
        | inl mark ↦
            let same : same_claim c t ≡ true = rw (second, mark) refl in
            ap (λ (x : Claim). let o : Option Claim = Some x in o) (sym (same_is c t same))
      ]
    ]

begins_apart : (a b : ℕ) (xs ys : List ℕ) → a ∷ xs ≡ b ∷ ys → a ≡ b
begins_apart a b xs ys e = ap (λ (l : List ℕ). unwrap_or (slice_get l 0) 0) e

ok_told : (truth : Option Claim) (told : Told) → port_word truth told ≡ codes "ok" → ToldTruth truth told
ok_told truth tells.Silence is = absurd (omega (arith, ap length is))
ok_told truth (tells.Fault fault) is = absurd (omega (arith, begins_apart 102 111 _ _ is))
ok_told truth (tells.Poor quality) is = absurd (omega (arith, begins_apart 112 111 _ _ is))
ok_told truth (tells.Claim c) is = (c, refl, claim_ok truth c is)

true_ok : (c : Claim) → claim_word (Some c) c ≡ codes "ok"
true_ok c =
    let parts = and_true (same_second c.at c.at) (same_mark c.mark c.mark) (same_itself c) in
    rw (parts.0, parts.1) refl
  where
    and_true : (a b : Bool) → (a && b) ≡ true → (a ≡ true) × (b ≡ true)
    and_true true true h = (refl, refl)
    and_true true false h = absurd cc
    and_true false b h = absurd cc

pub ok_is_truth : (truth : Option Claim) (told : Told) → (port_word truth told ≡ codes "ok") ↔ ToldTruth truth told
ok_is_truth truth told = (ok_told truth told, λ h. ap (port_word truth) h.1 ∙ ap (λ o. claim_word o h.0) h.2 ∙ true_ok h.0)

-- so at a tick: it is the true claim of its edge
pub ok_is_truth_there : (s : Setup) (r : ℕ) (ev : List Event) (told : Told)
    → (port_word (entry_of s r ev).truth told ≡ codes "ok") ↔ ((c : Claim) × (told ≡ tells.Claim c) × IsTrueClaim s.times (ticks_of r ev + 1) c)
ok_is_truth_there s r ev told = (
  λ is. let h = ok_told (truth_at s.times (ticks_of r ev)) told is in (h.0, h.1, (claim_is s.times (ticks_of r ev) h.0).0 h.2),
  λ h. (ok_is_truth (truth_at s.times (ticks_of r ev)) told).1 (h.0, h.1, (claim_is s.times (ticks_of r ev) h.0).1 h.2),
)

-- ---- as many words as claims

abbrev pub port_words : Entry → List (List ℕ)
port_words e = map (port_word e.truth) (ports_of e.told e.redundancy)

equal_word : (word : List ℕ) → bytes_eq word word ≡ true
equal_word word = (bytes_eq-Decides word word).1 refl

module _ (truth : Option Claim) (c : Claim) where
  abbrev word : List ℕ
  word = claim_word truth c

  told_as : (told : Told) → is_told c told ≡ true → port_word truth told ≡ word
  told_as told is = ap (port_word truth) (told_is c told is)

  -- so often stands its word there, or more often
  words_at_least : (ports : List Told) → carriers c ports ≤ count_by (bytes_eq word) (map (port_word truth) ports)
  words_at_least [] = omega arith
  words_at_least (told ∷ ports) =
      let one : cond (is_told c told) 1 0 ≤ cond (bytes_eq word (port_word truth told)) 1 0 = elim (cases_Bool (is_told c told)) [
        | inl is ↦ rw (is, told_as told is, equal_word word) (omega arith)
        | inr not_told ↦ rw not_told (omega arith)
      ] in
      omega (arith, carriers-cons c told ports, sum_by-cons (λ w. cond (bytes_eq word w) 1 0) (port_word truth told) (map (port_word truth) ports), one, words_at_least ports)

  any_word : (test : List ℕ → Bool) (ports : List Told) → test word ≡ true → 1 ≤ carriers c ports → list_any test (map (port_word truth) ports) ≡ true
  any_word test [] passes some = absurd (omega (arith, some))
  any_word test (told ∷ ports) passes some =
      elim (cases_Bool (is_told c told)) [
        | inl is ↦ or_first _ _ (ap test (told_as told is) ∙ passes)
        | inr not_told ↦
            let more : 1 ≤ carriers c ports = omega (arith, some, carriers-cons c told ports, none_of (is_told c told) not_told) in
            or_second (test (port_word truth told)) _ (any_word test ports passes more)
      ]
    where
      or_second : (a b : Bool) → b ≡ true → (a || b) ≡ true
      or_second true b h = refl
      or_second false b h = h

  of_utc : (ports : List Told) → AllByRecursion IsOfUtc ports → 1 ≤ carriers c ports → IsValid c.at
  of_utc [] valid some = absurd (omega (arith, some))
  of_utc (told ∷ ports) valid some =
      elim (cases_Bool (is_told c told)) [
        | inl is ↦ subst IsOfUtc (told_is c told is) valid.0
        | inr not_told ↦ of_utc ports valid.1 (omega (arith, some, carriers-cons c told ports, none_of (is_told c told) not_told))
      ]

  -- if more than half of the ports tell it and it is not true, it is the false majority
  false_majority : (ports : List Told) → AllByRecursion IsOfUtc ports → ¬ (truth ≡ Some c) → length ports < 2 * carriers c ports → has_false_majority (map (port_word truth) ports) ≡ true
  false_majority ports valid untrue many =
      let words : List (List ℕ) = map (port_word truth) ports in
      let some : 1 ≤ carriers c ports = omega (arith, many) in
      let shown : is_second_or_mark word ≡ true = untrue_is_shown truth c (of_utc ports valid some) untrue in
      let most : nat_lt (length words) (2 * count_by (bytes_eq word) words) ≡ true = lt-ltb (length words) (2 * count_by (bytes_eq word) words) (omega (arith, words_at_least ports, length-map ports (port_word truth), many)) in
      any_word (λ w. is_second_or_mark w && nat_lt (length words) (2 * count_by (bytes_eq w) words)) ports (rw (shown, most) refl) some

same_or_other : (o : Option Claim) (c : Claim) → (o ≡ Some c) ⊎ (¬ (o ≡ Some c))
same_or_other None c = inr (λ e. cc)
same_or_other (Some d) c =
    elim (cases_Bool (same_claim d c)) [
      | inl same ↦ inl (ap (λ (x : Claim). let o : Option Claim = Some x in o) (same_is d c same))
      | inr other ↦ inr (λ e. let is : d ≡ c = cc in false≢true (sym other ∙ subst (λ (x : Claim). same_claim d x ≡ true) is (same_itself d)))
    ]

enough_many : (told : Tells) (r : Redundancy) (c : Claim) → f_of r + 1 ≤ carriers c (ports_of told r) → length (ports_of told r) < 2 * carriers c (ports_of told r)
enough_many told One c enough = omega (arith, enough)
enough_many told Three c enough = omega (arith, enough)
enough_many told Five c enough = omega (arith, enough)

-- without a false majority each claim that f + 1 ports tell is the true one
true_by_words : (truth : Option Claim) (told : Tells) (r : Redundancy) (c : Claim) → AllByRecursion IsOfUtc (ports_of told r) → has_false_majority (map (port_word truth) (ports_of told r)) ≡ false
    → f_of r + 1 ≤ carriers c (ports_of told r) → truth ≡ Some c
true_by_words truth told r c valid none enough =
    elim (same_or_other truth c) [
      | inl same ↦ same
      | inr other ↦ absurd (both_ways _ none (false_majority truth c (ports_of told r) valid other (enough_many told r c enough)))
    ]

ports_of_utc : (told : Tells) (r : Redundancy) → AreOfUtc told → AllByRecursion IsOfUtc (ports_of told r)
ports_of_utc told One h = (h.a, tt)
ports_of_utc told Three h = (h.a, (h.b, (h.c, tt)))
ports_of_utc told Five h = (h.a, (h.b, (h.c, (h.d, (h.e, tt)))))

pub clean_by_words : (t : TimelineValue) (n : ℕ) (told : Tells) (r : Redundancy) → AreOfUtc told → has_false_majority (map (port_word (truth_at t n)) (ports_of told r)) ≡ false → IsClean t n told r
clean_by_words t n told r valid none = record { no_other = λ c enough. true_by_words (truth_at t n) told r c (ports_of_utc told r valid) none enough }

-- ---- a line has one list of words

split_words : (a b : List ℕ) (xs ys : List (List ℕ)) → NoBlank a → NoBlank b → a ++ after_blanks xs ≡ b ++ after_blanks ys → (a ≡ b) × (after_blanks xs ≡ after_blanks ys)
split_words [] [] xs ys h k e = (refl, e)
split_words [] (y ∷ b) [] ys h k e = absurd cc
split_words [] (y ∷ b) (x ∷ xs) ys h k e = let same : y ≡ 32 = sym (begins_apart 32 y _ _ e) in absurd (k.0 same)
split_words (x ∷ a) [] xs [] h k e = absurd cc
split_words (x ∷ a) [] xs (y ∷ ys) h k e = let same : x ≡ 32 = begins_apart x 32 _ _ e in absurd (h.0 same)
split_words (x ∷ a) (y ∷ b) xs ys h k e =
    let first : x ≡ y = begins_apart x y _ _ e in
    let others : a ++ after_blanks xs ≡ b ++ after_blanks ys = cc in
    let rest = split_words a b xs ys h.1 k.1 others in
    (ap (λ z. z ∷ a) first ∙ ap (λ zs. y ∷ zs) rest.0, rest.1)

same_words : (xs ys : List (List ℕ)) → AllByRecursion NoBlank xs → AllByRecursion NoBlank ys → after_blanks xs ≡ after_blanks ys → xs ≡ ys
same_words [] [] h k e = refl
same_words [] (y ∷ ys) h k e = absurd cc
same_words (x ∷ xs) [] h k e = absurd cc
same_words (x ∷ xs) (y ∷ ys) h k e =
    let others : x ++ after_blanks xs ≡ y ++ after_blanks ys = cc in
    let first = split_words x y xs ys h.0 k.0 others in
    ap (λ z. z ∷ xs) first.0 ∙ ap (λ zs. y ∷ zs) (same_words xs ys h.1 k.1 first.1)

-- what a line shows that has these parts
pub record ShowsSameWords (r n : ℕ) (words : List (List ℕ)) (q m : ℕ) (others : List (List ℕ)) : Type 0 where
  pub reader : r ≡ q
  pub edge : n ≡ m
  pub words_are : words ≡ others

no_blanks_in : (words : List (List ℕ)) → All (All (λ b. b ≢ 32)) words → AllByRecursion NoBlank words
no_blanks_in words h = each words (recursion_from_All _ words h)
  where
    each : (ws : List (List ℕ)) → AllByRecursion (All (λ b. b ≢ 32)) ws → AllByRecursion NoBlank ws
    each [] h = tt
    each (w ∷ ws) h = (recursion_from_All _ w h.0, each ws h.1)

all_no_blanks : (words : List (List ℕ)) → AllByRecursion NoBlank words → All (All (λ b. b ≢ 32)) words
all_no_blanks words h = All-from_recursion _ words (each words h)
  where
    each : (ws : List (List ℕ)) → AllByRecursion NoBlank ws → AllByRecursion (All (λ b. b ≢ 32)) ws
    each [] h = tt
    each (w ∷ ws) h = (All-from_recursion _ w h.0, each ws h.1)

words_of_line : (names : List (List ℕ)) (line : List ℕ) (r n q m : ℕ) (words others : List (List ℕ)) → AreNames names → ShowsWords names line r n words → m < 2 ^ 64 → AllByRecursion NoBlank others
    → line ≡ 32 ∷ (decimal m ++ (32 ∷ (name_at names q ++ after_blanks others))) → ShowsSameWords r n words q m others
words_of_line names line r n q m words others h shows few apart is =
    let both : decimal n ++ (32 ∷ (name_at names r ++ after_blanks words)) ≡ decimal m ++ (32 ∷ (name_at names q ++ after_blanks others)) = let e = sym shows.is ∙ is in cc in
    let edges = split (decimal n) (decimal m) _ _ (word_no_blank _ (decimal_word n)) (word_no_blank _ (decimal_word m)) both in
    let readers = split_words (name_at names r) (name_at names q) words others (word_no_blank _ (name_is_word names r h)) (word_no_blank _ (name_is_word names q h)) edges.1 in
    record { reader = name_of_one names r q h shows.named readers.0; edge = decimal_injective n m shows.number few edges.0; words_are = same_words words others (no_blanks_in words shows.apart) apart readers.1 }

-- two readings of one line
pub words_once : (names : List (List ℕ)) (line : List ℕ) (r n q m : ℕ) (words others : List (List ℕ)) → AreNames names → ShowsWords names line r n words → ShowsWords names line q m others → ShowsSameWords r n words q m others
words_once names line r n q m words others h one two = words_of_line names line r n q m words others h one two.number (no_blanks_in others two.apart) two.is

-- ---- the port line of a tick

told_apart : (truth : Option Claim) (ports : List Told) → AllByRecursion NoBlank (map (port_word truth) ports)
told_apart truth [] = tt
told_apart truth (told ∷ ports) = (word_no_blank (port_word truth told) (told_word truth told), told_apart truth ports)

row_is : (names : List (List ℕ)) (e : Entry) → port_row names e ≡ 32 ∷ (decimal e.edge ++ (32 ∷ (name_at names e.reader ++ after_blanks (port_words e))))
row_is names e =
    ap (λ text. 32 ∷ (decimal e.edge ++ (32 ∷ (name_at names e.reader ++ text)))) (sym (flat_map-map (λ word. 32 ∷ word) (port_word e.truth) (ports_of e.told e.redundancy)))

-- it shows what its ports told, and nothing else
row_shows : (names : List (List ℕ)) (e : Entry) → e.edge < 2 ^ 64 → e.reader < length names → ShowsWords names (port_row names e) e.reader e.edge (port_words e)
row_shows names e few known = record {
  number = few;
  named = known;
  apart = all_no_blanks (port_words e) (told_apart e.truth (ports_of e.told e.redundancy));
  is = row_is names e;
}

pub port_is_shown : (names : List (List ℕ)) (e : Entry) → e.edge < 2 ^ 64 → e.reader < length names
    → (line : List ℕ) × (port_line names e ≡ line ++ 10 ∷ []) × ShowsWords names line e.reader e.edge (port_words e)
port_is_shown names e few known = (port_row names e, sym (append-nil (port_line names e)) ∙ row_of_ports names e [], row_shows names e few known)

pub row_words : (names : List (List ℕ)) (e : Entry) (r n : ℕ) (words : List (List ℕ)) → AreNames names → e.edge < 2 ^ 64 → ShowsWords names (port_row names e) r n words
    → ShowsSameWords r n words e.reader e.edge (port_words e)
row_words names e r n words h few shows = words_of_line names (port_row names e) r n e.reader e.edge words (port_words e) h shows few (told_apart e.truth (ports_of e.told e.redundancy)) (row_is names e)
