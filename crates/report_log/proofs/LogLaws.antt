-- The lines of a log, what they show, and that they tell the truth.
use Rattle.std.proofs.Common.{◌≡◌, ◌≢◌, ℕ, ◌^◌, ◌<◌, ◌==◌, Bool, true, false, cond, List, [], ◌∷◌, ◌++◌, length, map, All, Option, Some, None, refl, ap, sym, ◌∙◌, append_assoc, append-nil, arith, codes, inl, inr}
use Rattle.std.specs.Prelude.{filter}
use Rattle.std.specs.List.{AllByRecursion, flat_map}
use Rattle.std.specs.Fmt.{decimal}
use Rattle.std.proofs.lemmas.List.Elements.{recursion_from_All, All-from_recursion}
use Rattle.std.proofs.lemmas.Fmt.{decimal_injective, decimal_nonempty}
use Rattle.irig_time.specs.declared.second.UtcSecond.{UtcSecond}
use Rattle.irig_plant.specs.declared.entry.Entry.{Entry}
use Rattle.report_log.specs.Text.{lock_text, cause_text, time_shown_text, name_at, entry_text}
use Rattle.report_log.specs.LogLines.{before_first, whole_lines, Shows}
use Rattle.std.proofs.lemmas.Bool.Decides.{eqb_tells}
use Rattle.report_log.proofs.WordLaws.{IsWord, IsNumber, AreNames, decimal_number, decimal_word, second_word, lock_word, cause_word, name_is_word, name_of_one, word_by_test}

pub not_newline : (b : ℕ) → b ≢ 10 → (b == 10) ≡ false
not_newline b h = elim (eqb_tells b 10) [ inl e ↦ absurd (h e.1) | inr e ↦ e.0 ]

-- ---- lists of facts

pub all_left : {X : Type 0} (P : X → Type 0) (xs ys : List X) → AllByRecursion P (xs ++ ys) → AllByRecursion P xs
all_left P [] ys h = tt
all_left P (x ∷ xs) ys h = (h.0, all_left P xs ys h.1)

pub all_at : {X : Type 0} (P : X → Type 0) (xs : List X) (x : X) (ys : List X) → AllByRecursion P (xs ++ x ∷ ys) → P x
all_at P [] x ys h = h.0
all_at P (a ∷ xs) x ys h = all_at P xs x ys h.1

pub all_join : {X : Type 0} (P : X → Type 0) (xs ys : List X) → AllByRecursion P xs → AllByRecursion P ys → AllByRecursion P (xs ++ ys)
all_join P [] ys h k = k
all_join P (x ∷ xs) ys h k = (h.0, all_join P xs ys h.1 k)

pub all_map : {X Y : Type 0} (P : X → Type 0) (Q : Y → Type 0) (f : X → Y) → ((x : X) → P x → Q (f x)) → (xs : List X) → AllByRecursion P xs → AllByRecursion Q (map f xs)
all_map P Q f g [] h = tt
all_map P Q f g (x ∷ xs) h = (g x h.0, all_map P Q f g xs h.1)

pub all_filter : {X : Type 0} (P : X → Type 0) (q : X → Bool) (xs : List X) → AllByRecursion P xs → AllByRecursion P (filter q xs)
all_filter P q [] h = tt
all_filter P q (x ∷ xs) h = elim (q x) as (λ b. AllByRecursion P (cond b (x ∷ filter q xs) (filter q xs))) [
  | true ↦ (h.0, all_filter P q xs h.1)
  | false ↦ all_filter P q xs h.1
]

-- ---- whole lines

abbrev pub NoNewline : List ℕ → Type 0
NoNewline l = AllByRecursion (λ b. b ≢ 10) l

pub word_line : (l : List ℕ) → IsWord l → NoNewline l
word_line [] h = tt
word_line (b ∷ bs) h = (λ e. omega (arith, h.0, e), word_line bs h.1)

pub line_with : (a b : List ℕ) → IsWord a → NoNewline b → NoNewline (a ++ (32 ∷ b))
line_with [] b h k = (λ e. omega (arith, e), k)
line_with (x ∷ xs) b h k = (λ e. omega (arith, h.0, e), line_with xs b h.1 k)

pub whole_along : (l rest : List ℕ) → NoNewline l → whole_lines (l ++ (10 ∷ rest)) ≡ l ∷ whole_lines rest
unfolding whole_lines
whole_along [] rest h = refl
whole_along (b ∷ bs) rest h = rw (not_newline b h.0, whole_along bs rest h.1) refl

front_before : (b : ℕ) (ls more : List (List ℕ)) → (rest : List (List ℕ)) × (before_first b (ls ++ more) ≡ before_first b ls ++ rest)
front_before b [] more = (before_first b more, refl)
front_before b (l ∷ ls) more = (more, refl)

-- the whole lines of a prefix come first
pub whole_front : (w rest : List ℕ) → (more : List (List ℕ)) × (whole_lines (w ++ rest) ≡ whole_lines w ++ more)
unfolding whole_lines
whole_front [] rest = (whole_lines rest, refl)
whole_front (b ∷ bs) rest =
    let r = whole_front bs rest in
    elim (b == 10) as (λ e. (more : List (List ℕ)) × (cond e ([] ∷ whole_lines (bs ++ rest)) (before_first b (whole_lines (bs ++ rest))) ≡ cond e ([] ∷ whole_lines bs) (before_first b (whole_lines bs)) ++ more)) [
      | true ↦ (r.0, ap (λ ls. [] ∷ ls) r.1)
      | false ↦ let f = front_before b (whole_lines bs) r.0 in (f.0, ap (before_first b) r.1 ∙ f.1)
    ]

pub one_whole : (l : List ℕ) → NoNewline l → whole_lines (l ++ 10 ∷ []) ≡ l ∷ []
unfolding whole_lines
one_whole l h = whole_along l [] h

-- ---- entries

-- the line of an entry, without its newline
abbrev pub entry_line : List (List ℕ) → Entry → List ℕ
entry_line names e =
    decimal e.edge ++ (32 ∷ (name_at names e.reader ++ (32 ∷ (time_shown_text e.report.announce ++ (32 ∷ (lock_text e.report.lock ++ (32 ∷ cause_text e.report.cause)))))))

pub line_of_entry : (names : List (List ℕ)) (e : Entry) (rest : List ℕ) → entry_text names e ++ rest ≡ entry_line names e ++ (10 ∷ rest)
unfolding entry_text
line_of_entry names e rest = simp append_assoc

time_word : (o : Option UtcSecond) → IsWord (time_shown_text o)
time_word None = word_by_test (codes "-") refl
time_word (Some u) = second_word u

pub entry_line_whole : (names : List (List ℕ)) (e : Entry) → AreNames names → NoNewline (entry_line names e)
entry_line_whole names e h =
    line_with (decimal e.edge) _ (decimal_word e.edge) (line_with (name_at names e.reader) _ (name_is_word names e.reader h)
    (line_with (time_shown_text e.report.announce) _ (time_word e.report.announce) (line_with (lock_text e.report.lock) _ (lock_word e.report.lock) (word_line (cause_text e.report.cause) (cause_word e.report.cause)))))

pub lines_of_entries : (names : List (List ℕ)) (es : List Entry) (rest : List ℕ) → AreNames names → whole_lines (flat_map (entry_text names) es ++ rest) ≡ map (entry_line names) es ++ whole_lines rest
lines_of_entries names [] rest h = refl
lines_of_entries names (e ∷ es) rest h =
    ap whole_lines (append_assoc (entry_text names e) (flat_map (entry_text names) es) rest ∙ line_of_entry names e (flat_map (entry_text names) es ++ rest))
    ∙ whole_along (entry_line names e) (flat_map (entry_text names) es ++ rest) (entry_line_whole names e h)
    ∙ ap (λ ls. entry_line names e ∷ ls) (lines_of_entries names es rest h)

-- ---- what a line shows

abbrev pub NoBlank : List ℕ → Type 0
NoBlank l = AllByRecursion (λ b. b ≢ 32) l

pub word_no_blank : (l : List ℕ) → IsWord l → NoBlank l
word_no_blank [] h = tt
word_no_blank (b ∷ bs) h = (λ e. omega (arith, h.0, e), word_no_blank bs h.1)

pub time_no_blank : (o : Option UtcSecond) → NoBlank (time_shown_text o)
time_no_blank o = word_no_blank (time_shown_text o) (time_word o)

-- what stands before the first blank, and after it
pub split : (a b s t : List ℕ) → NoBlank a → NoBlank b → a ++ (32 ∷ s) ≡ b ++ (32 ∷ t) → (a ≡ b) × (s ≡ t)
split [] [] s t h k e = (refl, cc)
split [] (y ∷ ys) s t h k e = let same : y ≡ 32 = cc in absurd (k.0 same)
split (x ∷ xs) [] s t h k e = let same : x ≡ 32 = cc in absurd (h.0 same)
split (x ∷ xs) (y ∷ ys) s t h k e =
    let first : x ≡ y = cc in
    let others : xs ++ (32 ∷ s) ≡ ys ++ (32 ∷ t) = cc in
    let r = split xs ys s t h.1 k.1 others in
    (ap (λ z. z ∷ xs) first ∙ ap (λ zs. y ∷ zs) r.0, r.1)

-- a line shows one reader, edge and time
pub record ShowsSame (r n : ℕ) (time : List ℕ) (q m : ℕ) (other : List ℕ) : Type 0 where
  pub reader : r ≡ q
  pub edge : n ≡ m
  pub time_is : time ≡ other

shows_fields : (names : List (List ℕ)) (line : List ℕ) (r n q m : ℕ) (time other more : List ℕ) → AreNames names → Shows names line r n time → m < 2 ^ 64 → NoBlank other
    → line ≡ decimal m ++ (32 ∷ (name_at names q ++ (32 ∷ (other ++ (32 ∷ more))))) → ShowsSame r n time q m other
shows_fields names line r n q m time other more h shows few word is =
    let edges = split (decimal n) (decimal m) _ _ (word_no_blank _ (decimal_word n)) (word_no_blank _ (decimal_word m)) (sym shows.is ∙ is) in
    let readers = split (name_at names r) (name_at names q) _ _ (word_no_blank _ (name_is_word names r h)) (word_no_blank _ (name_is_word names q h)) edges.1 in
    let times = split time other _ _ (recursion_from_All _ time shows.word) word readers.1 in
    record { reader = name_of_one names r q h shows.named readers.0; edge = decimal_injective n m shows.number few edges.0; time_is = times.0 }

pub entry_shows : (names : List (List ℕ)) (e : Entry) (r n : ℕ) (time : List ℕ) → AreNames names → e.edge < 2 ^ 64 → Shows names (entry_line names e) r n time → ShowsSame r n time e.reader e.edge (time_shown_text e.report.announce)
entry_shows names e r n time h few shows = shows_fields names (entry_line names e) r n e.reader e.edge time (time_shown_text e.report.announce) _ h shows few (word_no_blank _ (time_word e.report.announce)) refl

-- ---- lines that show nothing

-- the line of an entry begins with a digit
pub digit_first : (l rest : List ℕ) (b : ℕ) (bs : List ℕ) → 0 < length l → IsNumber l → b ∷ bs ≡ l ++ rest → b < 58
digit_first [] rest b bs some h e = absurd (omega (arith, some))
digit_first (x ∷ xs) rest b bs some h e = let same : b ≡ x = cc in omega (arith, h.0.1, same)

pub shows_digit : (names : List (List ℕ)) (b : ℕ) (bs : List ℕ) (r n : ℕ) (time : List ℕ) → Shows names (b ∷ bs) r n time → b < 58
shows_digit names b bs r n time shows = digit_first (decimal n) _ b bs (decimal_nonempty n shows.number) (decimal_number n) shows.is

pub entry_digit : (names : List (List ℕ)) (e : Entry) (b : ℕ) (bs : List ℕ) → e.edge < 2 ^ 64 → entry_line names e ≡ b ∷ bs → b < 58
entry_digit names e b bs few is = digit_first (decimal e.edge) _ b bs (decimal_nonempty e.edge few) (decimal_number e.edge) (sym is)

-- two readings of one line
pub shown_once : (names : List (List ℕ)) (line : List ℕ) (r n q m : ℕ) (time other : List ℕ) → AreNames names → Shows names line r n time → Shows names line q m other → ShowsSame r n time q m other
shown_once names line r n q m time other h one two = shows_fields names line r n q m time other two.more h one two.number (recursion_from_All _ other two.word) two.is

no_blanks : (time : List ℕ) → IsWord time → All (λ b. b ≢ 32) time
no_blanks time h = All-from_recursion (λ b. b ≢ 32) time (word_no_blank time h)

-- the line of an entry shows it
pub entry_line_shows : (names : List (List ℕ)) (e : Entry) → e.edge < 2 ^ 64 → e.reader < length names → Shows names (entry_line names e) e.reader e.edge (time_shown_text e.report.announce)
entry_line_shows names e few known = record {
  number = few;
  named = known;
  word = no_blanks (time_shown_text e.report.announce) (time_word e.report.announce);
  more = lock_text e.report.lock ++ (32 ∷ cause_text e.report.cause);
  is = refl;
}

pub entry_is_shown : (names : List (List ℕ)) (e : Entry) → AreNames names → e.edge < 2 ^ 64 → e.reader < length names
    → (line : List ℕ) × (entry_text names e ≡ line ++ 10 ∷ []) × Shows names line e.reader e.edge (time_shown_text e.report.announce)
entry_is_shown names e h few known = (entry_line names e, sym (append-nil (entry_text names e)) ∙ line_of_entry names e [], entry_line_shows names e few known)
