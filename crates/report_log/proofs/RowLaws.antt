-- The lines of a log, if those of what ports told may stand among them.
use Rattle.std.proofs.Common.{◌≡◌, ℕ, ◌<◌, ◌||◌, Bool, true, false, not, cond, List, [], ◌∷◌, ◌++◌, length, map, drop, get_or, ◌+◌, ◌≤◌, Option, Some, None, refl, ap, sym, ◌∙◌, append_assoc, append-nil, arith, codes}
use Rattle.std.specs.Prelude.{filter, is_some}
use Rattle.std.specs.List.{AllByRecursion}
use Rattle.std.specs.Fmt.{decimal}
use Rattle.std.proofs.Math.ListN.{drop_of_length-le}
use Rattle.std.proofs.lemmas.Fmt.{decimal_nonempty}
use Rattle.std.proofs.lemmas.List.{drop_more}
use Rattle.irig_frame.specs.declared.layout.Field.{Field}
use Rattle.irig_frame.specs.declared.layout.Field.TheVariants.{Second, Minute, Hour, Day, Year}
use Rattle.irig_frame.specs.declared.fault.FrameFault.TheVariants.{Short, Long, Pulse, Marker, Digit, Range}
use Rattle.irig_time.specs.declared.claim.Claim.{Claim}
use Rattle.irig_time.specs.declared.claim.TimeFault.TheVariants.{NoSuchDay, OutOfYears, Second60, DeletedSecond}
use Rattle.irig_time.specs.declared.mark.Mark.{Mark}
use Rattle.irig_time.specs.declared.mark.Mark.TheVariants.{Unspoken, NoLeap, Insert, Delete}
use Rattle.irig_time.specs.Seconds.{same_second}
use Rattle.irig_time.specs.Claims.{same_mark}
use Rattle.irig_time.specs.TextValues.{second_text}
use Rattle.irig_port.specs.declared.told.Told.{Told}
use Rattle.irig_port.specs.declared.told.Told.TheVariants as tells
use Rattle.irig_port.specs.declared.told.PortFault.{PortFault}
use Rattle.irig_port.specs.declared.told.PortFault.TheVariants.{Frame, Parity, Sbs, Time, Early}
use Rattle.text_faults.specs.declared.port_fault.FaultDetail.{FaultDetail}
use Rattle.text_faults.specs.declared.port_fault.FaultDetail.TheVariants as detail
use Rattle.irig_time.specs.MarkWords.{mark_word}
use Rattle.text_faults.specs.PortFaults.{number_of, name_of, detail_of, field_word, detail_text, fault_text}
use Rattle.irig_vote.specs.Vote.{ports_of}
use Rattle.irig_plant.specs.declared.entry.Entry.{Entry}
use Rattle.report_log.specs.declared.shown.Shown.{Shown}
use Rattle.report_log.specs.Text.{name_at, entries_text, claim_word, port_word, words_text, port_line, tick_text, ticks_text, lines_text}
use Rattle.report_log.specs.LogLines.{whole_lines, Shows}
use Rattle.report_log.proofs.WordLaws.{IsWord, IsNumber, AreNames, words_join, word_by_test, decimal_number, decimal_word, second_word, name_is_word}
use Rattle.report_log.proofs.LogLaws.{NoNewline, all_join, all_map, all_filter, word_line, line_with, whole_along, entry_line, lines_of_entries}

-- ---- words

mark_is_word : (mark : Mark) → IsWord (mark_word mark)
mark_is_word Unspoken = word_by_test (codes "unspoken") refl
mark_is_word NoLeap = word_by_test (codes "no-leap") refl
mark_is_word Insert = word_by_test (codes "insert") refl
mark_is_word Delete = word_by_test (codes "delete") refl

claim_is_word : (truth : Option Claim) (claim : Claim) → IsWord (claim_word truth claim)
claim_is_word None claim = second_word claim.at
claim_is_word (Some truth) claim = either (not (same_second claim.at truth.at)) (not (same_mark claim.mark truth.mark))
  where
    either : (other_second other_mark : Bool) → IsWord (cond other_second (second_text claim.at) (cond other_mark (mark_word claim.mark) (codes "ok")))
    either true other_mark = second_word claim.at
    either false true = mark_is_word claim.mark
    either false false = word_by_test (codes "ok") refl

fault_name_word : (fault : PortFault) → IsWord (name_of fault)
fault_name_word (Frame (Short count)) = word_by_test (codes "Short") refl
fault_name_word (Frame Long) = word_by_test (codes "Long") refl
fault_name_word (Frame (Pulse element)) = word_by_test (codes "Pulse") refl
fault_name_word (Frame (Marker element)) = word_by_test (codes "Marker") refl
fault_name_word (Frame (Digit field)) = word_by_test (codes "Digit") refl
fault_name_word (Frame (Range field)) = word_by_test (codes "Range") refl
fault_name_word (Time NoSuchDay) = word_by_test (codes "NoSuchDay") refl
fault_name_word (Time OutOfYears) = word_by_test (codes "OutOfYears") refl
fault_name_word (Time Second60) = word_by_test (codes "Second60") refl
fault_name_word (Time DeletedSecond) = word_by_test (codes "DeletedSecond") refl
fault_name_word Parity = word_by_test (codes "Parity") refl
fault_name_word Sbs = word_by_test (codes "Sbs") refl
fault_name_word Early = word_by_test (codes "Early") refl

field_is_word : (field : Field) → IsWord (field_word field)
field_is_word Second = word_by_test (codes "second") refl
field_is_word Minute = word_by_test (codes "minute") refl
field_is_word Hour = word_by_test (codes "hour") refl
field_is_word Day = word_by_test (codes "day") refl
field_is_word Year = word_by_test (codes "year") refl

colon : IsWord (codes ":")
colon = word_by_test (codes ":") refl

detail_word : (o : Option FaultDetail) → IsWord (detail_text (codes ":") o)
detail_word None = tt
detail_word (Some (detail.Symbols count)) = words_join (codes ":") (decimal count) colon (decimal_word count)
detail_word (Some (detail.Element element)) = words_join (codes ":") (decimal element) colon (decimal_word element)
detail_word (Some (detail.Field field)) = words_join (codes ":") (field_word field) colon (field_is_word field)

fault_word : (fault : PortFault) → IsWord (fault_text (codes ":") fault)
fault_word fault =
    words_join (decimal (number_of fault)) _ (decimal_word (number_of fault)) (words_join (codes ":") _ colon
    (words_join (name_of fault) (detail_text (codes ":") (detail_of fault)) (fault_name_word fault) (detail_word (detail_of fault))))

pub told_word : (truth : Option Claim) (told : Told) → IsWord (port_word truth told)
told_word truth tells.Silence = word_by_test (codes "silence") refl
told_word truth (tells.Fault fault) = words_join (codes "fault:") _ (word_by_test (codes "fault:") refl) (fault_word fault)
told_word truth (tells.Poor quality) = words_join (codes "poor:") _ (word_by_test (codes "poor:") refl) (decimal_word quality)
told_word truth (tells.Claim claim) = claim_is_word truth claim

words_line : (truth : Option Claim) (ports : List Told) → NoNewline (words_text truth ports)
words_line truth [] = tt
words_line truth (told ∷ ports) =
    (λ e. omega (arith, e), all_join _ (port_word truth told) (words_text truth ports) (word_line (port_word truth told) (told_word truth told)) (words_line truth ports))

-- ---- the line of what ports told

-- it, without its newline
abbrev pub port_row : List (List ℕ) → Entry → List ℕ
port_row names e = 32 ∷ (decimal e.edge ++ (32 ∷ (name_at names e.reader ++ words_text e.truth (ports_of e.told e.redundancy))))

pub row_of_ports : (names : List (List ℕ)) (e : Entry) (rest : List ℕ) → port_line names e ++ rest ≡ port_row names e ++ (10 ∷ rest)
unfolding port_line
row_of_ports names e rest = simp append_assoc

pub port_row_whole : (names : List (List ℕ)) (e : Entry) → AreNames names → NoNewline (port_row names e)
port_row_whole names e h = (
  λ b. omega (arith, b),
  line_with (decimal e.edge) _ (decimal_word e.edge)
      (all_join _ (name_at names e.reader) _ (word_line (name_at names e.reader) (name_is_word names e.reader h)) (words_line e.truth (ports_of e.told e.redundancy))),
)

first_digit : (l rest : List ℕ) (b : ℕ) (bs : List ℕ) → 0 < length l → IsNumber l → b ∷ bs ≡ l ++ rest → 47 < b
first_digit [] rest b bs some h e = absurd (omega (arith, some))
first_digit (x ∷ xs) rest b bs some h e = let same : b ≡ x = cc in omega (arith, h.0.0, same)

-- a line that begins with a blank is no entry line
pub port_row_shows_nothing : (names : List (List ℕ)) (bs : List ℕ) (r n : ℕ) (time : List ℕ) → ¬ Shows names (32 ∷ bs) r n time
port_row_shows_nothing names bs r n time shows =
    omega (arith, first_digit (decimal n) _ 32 bs (decimal_nonempty n shows.number) (decimal_number n) shows.is)

-- ---- all lines

abbrev pub entry_rows : List (List ℕ) → Bool → List Entry → List (List ℕ)
entry_rows names all es = map (entry_line names) (filter (λ e. all || is_some e.report.announce) es)

abbrev pub tick_rows : List (List ℕ) → Bool → List Entry → List (List ℕ)
tick_rows names all [] = []
tick_rows names all (e ∷ es) = entry_rows names all (e ∷ []) ++ port_row names e ∷ tick_rows names all es

abbrev pub rows : List (List ℕ) → Shown → List Entry → List (List ℕ)
rows names shown es = cond shown.ports (tick_rows names shown.all es) (entry_rows names shown.all es)

lines_of_entry_rows : (names : List (List ℕ)) (all : Bool) (es : List Entry) (rest : List ℕ) → AreNames names → whole_lines (entries_text names all es ++ rest) ≡ entry_rows names all es ++ whole_lines rest
unfolding entries_text
lines_of_entry_rows names all es rest h = lines_of_entries names (filter (λ e. all || is_some e.report.announce) es) rest h

lines_of_ticks : (names : List (List ℕ)) (all : Bool) (es : List Entry) (rest : List ℕ) → AreNames names → whole_lines (ticks_text names all es ++ rest) ≡ tick_rows names all es ++ whole_lines rest
unfolding ticks_text
lines_of_ticks names all [] rest h = refl
lines_of_ticks names all (e ∷ es) rest h =
    let entry = entries_text names all (e ∷ []) in
    let port = port_line names e in
    let more = ticks_text names all es in
    let reader_rules = entry_rows names all (e ∷ []) in
    let row = port_row names e in
    ap whole_lines (append_assoc (entry ++ port) more rest ∙ append_assoc entry port (more ++ rest))
    ∙ lines_of_entry_rows names all (e ∷ []) (port ++ (more ++ rest)) h
    ∙ ap (λ ls. reader_rules ++ ls) (ap whole_lines (row_of_ports names e (more ++ rest)) ∙ whole_along row (more ++ rest) (port_row_whole names e h) ∙ ap (λ ls. row ∷ ls) (lines_of_ticks names all es rest h))
    ∙ sym (append_assoc reader_rules (row ∷ tick_rows names all es) (whole_lines rest))

pub lines_of_rows : (names : List (List ℕ)) (shown : Shown) (es : List Entry) (rest : List ℕ) → AreNames names → whole_lines (lines_text names shown es ++ rest) ≡ rows names shown es ++ whole_lines rest
lines_of_rows names shown es rest h =
    let all = shown.all in
    elim (shown.ports) as (λ p. whole_lines (cond p (ticks_text names all es) (entries_text names all es) ++ rest) ≡ cond p (tick_rows names all es) (entry_rows names all es) ++ whole_lines rest) [
      | true ↦ lines_of_ticks names all es rest h
      | false ↦ lines_of_entry_rows names all es rest h
    ]

-- ---- a fact of each line

module _ (names : List (List ℕ)) (all : Bool) (Fact : List ℕ → Type 0) (EntryFact : Entry → Type 0) (entry : (e : Entry) → EntryFact e → Fact (entry_line names e)) (port : (bs : List ℕ) → Fact (32 ∷ bs)) where
  each_entry_row : (es : List Entry) → AllByRecursion EntryFact es → AllByRecursion Fact (entry_rows names all es)
  each_entry_row es h =
      let passes : Entry → Bool = λ e. all || is_some e.report.announce in
      all_map EntryFact Fact (entry_line names) entry (filter passes es) (all_filter EntryFact passes es h)

  each_tick_row : (es : List Entry) → AllByRecursion EntryFact es → AllByRecursion Fact (tick_rows names all es)
  each_tick_row [] h = tt
  each_tick_row (e ∷ es) h = all_join Fact (entry_rows names all (e ∷ [])) _ (each_entry_row (e ∷ []) (h.0, tt)) (port _, each_tick_row es h.1)

pub each_row : (names : List (List ℕ)) (shown : Shown) (Fact : List ℕ → Type 0) (EntryFact : Entry → Type 0) → ((e : Entry) → EntryFact e → Fact (entry_line names e)) → ((bs : List ℕ) → Fact (32 ∷ bs))
    → (es : List Entry) → AllByRecursion EntryFact es → AllByRecursion Fact (rows names shown es)
each_row names shown Fact EntryFact entry port es h =
    let all = shown.all in
    elim (shown.ports) as (λ p. AllByRecursion Fact (cond p (tick_rows names all es) (entry_rows names all es))) [
      | true ↦ each_tick_row names all Fact EntryFact entry port es h
      | false ↦ each_entry_row names all Fact EntryFact entry port es h
    ]

-- ---- a text to which ticks are added

-- what is added so far, with the ticks that are left, is what is to be added
pub record HasTicks (names : List (List ℕ)) (all : Bool) (before now : List ℕ) (left es : List Entry) : Type 0 where
  pub is : now ++ ticks_text names all left ≡ before ++ ticks_text names all es

pub tick_added : (names : List (List ℕ)) (all : Bool) (before now next : List ℕ) (es : List Entry) (i : ℕ) (d : Entry) → i < length es
    → HasTicks names all before now (drop i es) es → next ≡ now ++ tick_text names all (get_or es i d)
    → HasTicks names all before next (drop (i + 1) es) es
unfolding ticks_text
tick_added names all before now next es i d lt so_far added =
    let tick = tick_text names all (get_or es i d) in
    let rest = ticks_text names all (drop (i + 1) es) in
    let first : ticks_text names all (drop i es) ≡ tick ++ rest = ap (ticks_text names all) (drop_more es i d lt) in
    record { is = ap (λ t. t ++ rest) added ∙ append_assoc now tick rest ∙ ap (λ t. now ++ t) (sym first) ∙ so_far.is }

pub all_ticks_added : (names : List (List ℕ)) (all : Bool) (before now : List ℕ) (es : List Entry) (i : ℕ) → length es ≤ i
    → HasTicks names all before now (drop i es) es → now ≡ before ++ ticks_text names all es
unfolding ticks_text
all_ticks_added names all before now es i few so_far =
    sym (append-nil now) ∙ ap (λ es. now ++ ticks_text names all es) (sym (drop_of_length-le es few)) ∙ so_far.is
