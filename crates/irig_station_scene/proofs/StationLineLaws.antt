-- The lines of a station's log: one for each entry that is shown, and none of them is a last line.
use Rattle.std.proofs.Common.{◌≡◌, ◌≢◌, ℕ, zero, suc, ◌-◌, ◌/◌, ◌%◌, Bool, true, false, ◌||◌, cond, nat_lt, List, [], ◌∷◌, ◌++◌, length, replicate, Option, Some, None, refl, ap, sym, ◌∙◌, append_assoc, arith, codes}
use Rattle.std.specs.Prelude.{is_some}
use Rattle.std.specs.List.{flat_map}
use Rattle.std.specs.Fmt.{decimal}
use Rattle.irig_time.specs.declared.second.UtcSecond.{UtcSecond}
use Rattle.irig_time.specs.TextValues.{second_text}
use Rattle.irig_timekeeper.specs.declared.stamp.Stamp.{Stamp}
use Rattle.irig_simulated.specs.declared.told_second.ToldSecond.{ToldSecond}
use Rattle.irig_station.specs.declared.entry.Entry.{Entry}
use Rattle.irig_station.specs.declared.entry.Entry.TheVariants.{Told, Stamped}
use Rattle.report_log.specs.Text.{cause_text, lock_text, name_at, time_shown_text}
use Rattle.report_log.specs.LogLines.{whole_lines}
use Rattle.report_log.proofs.WordLaws.{IsWord, IsNumber, AreNames, words_join, word_by_test, decimal_number, decimal_word, second_word, lock_word, cause_word, name_is_word}
use Rattle.report_log.proofs.LogLaws.{NoNewline, line_with, whole_along, word_line}
use Rattle.report_log.proofs.LastLines.{literal_line}
use Rattle.irig_station_scene.specs.StationText.{bound_text, instant_text, off_text, six_digits, stamp_text, stamped_text, station_entry_text, station_text, told_text}

-- ---- words

pub time_is_word : (o : Option UtcSecond) → IsWord (time_shown_text o)
time_is_word None = word_by_test (codes "-") refl
time_is_word (Some u) = second_word u

pub off_word : (count other : ℕ) → IsWord (off_text count other)
off_word count other = elim (nat_lt count other) as (λ b. IsWord (cond b (codes "-" ++ decimal (other - count)) (codes "+" ++ decimal (count - other)))) [
  | true ↦ words_join (codes "-") _ (word_by_test (codes "-") refl) (decimal_word (other - count))
  | false ↦ words_join (codes "+") _ (word_by_test (codes "+") refl) (decimal_word (count - other))
]

bound_word : (o : Option UtcSecond) (bound : ℕ) → IsWord (bound_text o bound)
bound_word None bound = word_by_test (codes "-") refl
bound_word (Some u) bound = decimal_word bound

zeros_word : (n : ℕ) → IsWord (replicate n 48)
zeros_word zero = tt
zeros_word (suc n) = (omega arith, zeros_word n)

six_word : (n : ℕ) → IsWord (six_digits n)
six_word n = words_join (replicate (6 - length (decimal n)) 48) (decimal n) (zeros_word (6 - length (decimal n))) (decimal_word n)

pub instant_word : (time : ℕ) → IsWord (instant_text time)
instant_word time =
    words_join (decimal (time / 1000000)) _ (decimal_word (time / 1000000))
    (words_join (codes ".") _ (word_by_test (codes ".") refl) (six_word (time % 1000000)))

stamp_line : (o : Option Stamp) → NoNewline (stamp_text o)
stamp_line None = literal_line (codes "- - -") refl
stamp_line (Some s) =
    line_with (second_text s.second) _ (second_word s.second)
    (line_with (decimal s.offset_us) _ (decimal_word s.offset_us) (word_line (decimal s.bound_us) (decimal_word s.bound_us)))

-- ---- the line of an entry, without its newline

abbrev pub told_line : List ℕ → ToldSecond → List ℕ
told_line name told =
    decimal told.edge ++ (32 ∷ (name ++ (32 ∷ (time_shown_text told.beat.report.announce
    ++ (32 ∷ (lock_text told.beat.report.lock ++ (32 ∷ (cause_text told.beat.report.cause
    ++ (32 ∷ (off_text told.told_count told.edge_count
    ++ (32 ∷ bound_text told.beat.report.announce told.beat.bound_us)))))))))))

abbrev pub stamped_line : List ℕ → (time : ℕ) → Option Stamp → List ℕ
stamped_line name time stamp = 64 ∷ (instant_text time ++ (32 ∷ (name ++ (32 ∷ stamp_text stamp))))

abbrev pub station_line : List (List ℕ) → Entry → List ℕ
station_line names (Told r told) = told_line (name_at names r) told
station_line names (Stamped r time stamp) = stamped_line (name_at names r) time stamp

told_is : (name : List ℕ) (told : ToldSecond) → told_text name told ≡ told_line name told ++ 10 ∷ []
unfolding told_text
told_is name told = simp append_assoc

stamped_is : (name : List ℕ) (time : ℕ) (stamp : Option Stamp) → stamped_text name time stamp ≡ stamped_line name time stamp ++ 10 ∷ []
unfolding stamped_text
stamped_is name time stamp = simp append_assoc

-- all are shown
pub line_is : (names : List (List ℕ)) (e : Entry) → station_entry_text names true e ≡ station_line names e ++ 10 ∷ []
line_is names (Told r told) = told_is (name_at names r) told
line_is names (Stamped r time stamp) = stamped_is (name_at names r) time stamp

line_whole : (names : List (List ℕ)) (e : Entry) → AreNames names → NoNewline (station_line names e)
line_whole names (Told r told) h =
    line_with (decimal told.edge) _ (decimal_word told.edge) (line_with (name_at names r) _ (name_is_word names r h)
    (line_with (time_shown_text told.beat.report.announce) _ (time_is_word told.beat.report.announce)
    (line_with (lock_text told.beat.report.lock) _ (lock_word told.beat.report.lock)
    (line_with (cause_text told.beat.report.cause) _ (cause_word told.beat.report.cause)
    (line_with (off_text told.told_count told.edge_count) _ (off_word told.told_count told.edge_count)
    (word_line (bound_text told.beat.report.announce told.beat.bound_us) (bound_word told.beat.report.announce told.beat.bound_us)))))))
line_whole names (Stamped r time stamp) h = (
  λ e. omega (arith, e),
  line_with (instant_text time) _ (instant_word time)
      (line_with (name_at names r) _ (name_is_word names r h) (stamp_line stamp)),
)

-- ---- it begins with a digit or with @

after_number : (number rest more : List ℕ) → IsNumber number → number ++ (32 ∷ rest) ≢ 112 ∷ more
after_number [] rest more h e = let same : ◌≡◌ {A = ℕ} 32 112 = cc in omega (arith, same)
after_number (b ∷ bs) rest more h e = let same : b ≡ 112 = cc in omega (arith, h.0.1, same)

pub no_last_line : (names : List (List ℕ)) (e : Entry) (more : List ℕ) → station_line names e ≢ 112 ∷ more
no_last_line names (Told r told) more = after_number (decimal told.edge) _ more (decimal_number told.edge)
no_last_line names (Stamped r time stamp) more = λ e. (let same : ◌≡◌ {A = ℕ} 64 112 = cc in omega (arith, same))

-- ---- the lines of entries

-- whether an entry is shown
abbrev pub is_shown : Bool → Entry → Bool
is_shown all (Told r told) = all || is_some told.beat.report.announce
is_shown all (Stamped r time stamp) = true

-- the lines of those that are
abbrev pub shown_lines : List (List ℕ) → Bool → List Entry → List (List ℕ)
shown_lines names all es = flat_map (λ e. cond (is_shown all e) (station_line names e ∷ []) []) es

text_of_shown : (names : List (List ℕ)) (all : Bool) (e : Entry) → station_entry_text names all e ≡ cond (is_shown all e) (station_line names e ++ 10 ∷ []) []
text_of_shown names all (Told r told) = ap (λ t. cond (all || is_some told.beat.report.announce) t []) (told_is (name_at names r) told)
text_of_shown names all (Stamped r time stamp) = stamped_is (name_at names r) time stamp

one_shown : (b : Bool) (line rest : List ℕ) → NoNewline line → whole_lines (cond b (line ++ 10 ∷ []) [] ++ rest) ≡ cond b (line ∷ []) [] ++ whole_lines rest
one_shown true line rest h = ap whole_lines (append_assoc line (10 ∷ []) rest) ∙ whole_along line rest h
one_shown false line rest h = refl

pub lines_of_station : (names : List (List ℕ)) (all : Bool) (es : List Entry) (rest : List ℕ) → AreNames names
    → whole_lines (station_text names all es ++ rest) ≡ shown_lines names all es ++ whole_lines rest
unfolding station_text
lines_of_station names all [] rest h = refl
lines_of_station names all (e ∷ es) rest h =
    let others = flat_map (station_entry_text names all) es in
    let line = station_line names e in
    let one = cond (is_shown all e) (line ++ 10 ∷ []) [] in
    ap whole_lines (append_assoc (station_entry_text names all e) others rest ∙ ap (λ t. t ++ (others ++ rest)) (text_of_shown names all e))
    ∙ one_shown (is_shown all e) line (others ++ rest) (line_whole names e h)
    ∙ ap (λ ls. cond (is_shown all e) (line ∷ []) [] ++ ls) (lines_of_station names all es rest h)
    ∙ sym (append_assoc (cond (is_shown all e) (line ∷ []) []) (shown_lines names all es) (whole_lines rest))
