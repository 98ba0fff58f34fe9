-- The lines of a log of devices, and which of them says that the premises are kept.
use Rattle.std.proofs.Common.{◌≡◌, ◌≢◌, ℕ, ◌≤◌, Bool, true, false, cond, List, [], ◌∷◌, ◌++◌, length, All, Some, refl, ap, sym, ◌∙◌, append_assoc, arith, codes}
use Rattle.std.specs.Prelude.{drop, slice_get, unwrap_or, ◌^◌, ◌<◌}
use Rattle.std.specs.List.{AllByRecursion}
use Rattle.std.specs.Fmt.{decimal}
use Rattle.std.proofs.lemmas.List.{length-append}
use Rattle.std.proofs.lemmas.List.Elements.{All-cons, All-head, All-nil, All-tail}
use Rattle.irig_station.specs.declared.entry.Entry.{Entry}
use Rattle.irig_station.specs.declared.audit.Audit.{Audit}
use Rattle.irig_station.specs.declared.audit.Audit.TheVariants.{Kept, FalseTable, Drift, Broken}
use Rattle.report_log.specs.Text.{name_at}
use Rattle.report_log.specs.LogLines.{whole_lines}
use Rattle.report_log.proofs.WordLaws.{AreNames, decimal_word}
use Rattle.report_log.proofs.LogLaws.{NoNewline, all_join, one_whole, split, word_no_blank}
use Rattle.report_log.proofs.LastLines.{decimal_line, literal_line, name_line}
use Rattle.irig_station_scene.specs.StationText.{station_audit_text}
use Rattle.irig_station_scene.proofs.NumberLaws.{one_decimal}
use Rattle.irig_station_scene.proofs.StationLineLaws.{is_shown, no_last_line, shown_lines, station_line}
use Rattle.irig_scenario.specs.StationLogs.{broken_device_line}

-- ---- the line of an audit

abbrev pub audit_line : List (List ℕ) → Audit → List ℕ
audit_line names Kept = codes "premises kept"
audit_line names (FalseTable r) = codes "premises broken: table of device " ++ name_at names r
audit_line names (Drift r) = codes "premises broken: drift of device " ++ name_at names r
audit_line names (Broken r edge) = codes "premises broken: edge " ++ (decimal edge ++ (codes " device " ++ name_at names r))

audit_is : (names : List (List ℕ)) (a : Audit) → station_audit_text names a ≡ audit_line names a ++ 10 ∷ []
unfolding station_audit_text
audit_is names Kept = refl
audit_is names (FalseTable r) = simp append_assoc
audit_is names (Drift r) = simp append_assoc
audit_is names (Broken r edge) = simp append_assoc

audit_whole : (names : List (List ℕ)) (a : Audit) → AreNames names → NoNewline (audit_line names a)
audit_whole names Kept h = literal_line (codes "premises kept") refl
audit_whole names (FalseTable r) h =
    all_join _ (codes "premises broken: table of device ") _ (literal_line (codes "premises broken: table of device ") refl) (name_line names r h)
audit_whole names (Drift r) h =
    all_join _ (codes "premises broken: drift of device ") _ (literal_line (codes "premises broken: drift of device ") refl) (name_line names r h)
audit_whole names (Broken r edge) h =
    all_join _ (codes "premises broken: edge ") _ (literal_line (codes "premises broken: edge ") refl) (all_join _ (decimal edge) _ (decimal_line edge)
    (all_join _ (codes " device ") _ (literal_line (codes " device ") refl) (name_line names r h)))

pub audit_lines : (names : List (List ℕ)) (a : Audit) → AreNames names → whole_lines (station_audit_text names a) ≡ audit_line names a ∷ []
audit_lines names a h = ap whole_lines (audit_is names a) ∙ one_whole (audit_line names a) (audit_whole names a h)

pub says_kept : (names : List (List ℕ)) (a : Audit) → audit_line names a ≡ codes "premises kept" → a ≡ Kept
says_kept names Kept e = refl
says_kept names (FalseTable r) e = absurd (let apart : Some 98 ≡ Some 107 = ap (λ l. slice_get l 9) e in cc)
says_kept names (Drift r) e = absurd (let apart : Some 98 ≡ Some 107 = ap (λ l. slice_get l 9) e in cc)
says_kept names (Broken r edge) e = absurd (let apart : Some 98 ≡ Some 107 = ap (λ l. slice_get l 9) e in cc)

pub says_broken : (names : List (List ℕ)) (a : Audit) (edge : ℕ) (name : List ℕ) → edge < 2 ^ 64 → audit_line names a ≡ broken_device_line edge name → (r : ℕ) × (a ≡ Broken r edge)
says_broken names Kept edge name few e = absurd (let apart : ◌≡◌ {A = ℕ} 107 98 = ap (λ (l : List ℕ). unwrap_or (slice_get l 9) 0) e in omega (arith, apart))
says_broken names (FalseTable r) edge name few e = absurd (let apart : ◌≡◌ {A = ℕ} 116 101 = ap (λ (l : List ℕ). unwrap_or (slice_get l 17) 0) e in omega (arith, apart))
says_broken names (Drift r) edge name few e = absurd (let apart : ◌≡◌ {A = ℕ} 100 101 = ap (λ (l : List ℕ). unwrap_or (slice_get l 17) 0) e in omega (arith, apart))
says_broken names (Broken r n) edge name few e =
    let rest : decimal n ++ (codes " device " ++ name_at names r) ≡ decimal edge ++ (codes " device " ++ name) = ap (λ l. drop 22 l) e in
    let same = split (decimal n) (decimal edge) (codes "device " ++ name_at names r) (codes "device " ++ name) (word_no_blank (decimal n) (decimal_word n)) (word_no_blank (decimal edge) (decimal_word edge)) rest in
    (r, ap (λ m. Broken r m) (sym (one_decimal edge n few (sym same.0))))

-- ---- it is the last of all lines

-- lines of which none is this one, and one more at most, which is it
pub kept_last : (kept : List ℕ) (shown tail above more : List (List ℕ)) → AllByRecursion (λ l. l ≢ kept) shown → length tail ≤ 1
    → shown ++ tail ≡ above ++ (kept ∷ more) → (above ≡ shown) × (tail ≡ kept ∷ [])
kept_last kept [] [] above more apart few e = absurd (omega (arith, ap length e, length-append above (kept ∷ more)))
kept_last kept [] (t ∷ []) [] more apart few e = (refl, let same : t ≡ kept = cc in ap (λ l. l ∷ []) same)
kept_last kept [] (t ∷ []) (a ∷ rest) more apart few e = absurd (omega (arith, ap length e, length-append rest (kept ∷ more)))
kept_last kept [] (t ∷ s ∷ ts) above more apart few e = absurd (omega (arith, few))
kept_last kept (s ∷ ss) tail [] more apart few e = absurd (apart.0 (let same : s ≡ kept = cc in same))
kept_last kept (s ∷ ss) tail (a ∷ rest) more apart few e =
    let first : a ≡ s = cc in
    let others : ss ++ tail ≡ rest ++ (kept ∷ more) = cc in
    let r = kept_last kept ss tail rest more apart.1 few others in
    (ap (λ l. l ∷ rest) first ∙ ap (λ ls. s ∷ ls) r.0, r.1)

-- ---- the lines of entries

-- a fact of the line of each entry that is shown
one_shown : (names : List (List ℕ)) (Fact : List ℕ → Type 0) (b : Bool) (line : List ℕ) (ls : List (List ℕ)) → Fact line → All Fact ls → All Fact (cond b (line ∷ []) [] ++ ls)
one_shown names Fact true line ls fact h = All-cons Fact line ls fact h
one_shown names Fact false line ls fact h = h

pub each_shown : (names : List (List ℕ)) (all : Bool) (Fact : List ℕ → Type 0) (EntryFact : Entry → Type 0) → ((e : Entry) → EntryFact e → Fact (station_line names e))
    → (es : List Entry) → All EntryFact es → All Fact (shown_lines names all es)
each_shown names all Fact EntryFact has [] h = All-nil Fact
each_shown names all Fact EntryFact has (e ∷ es) h =
    one_shown names Fact (is_shown all e) (station_line names e) (shown_lines names all es) (has e (All-head EntryFact e es h)) (each_shown names all Fact EntryFact has es (All-tail EntryFact e es h))

-- none of them is a line that begins with this letter
one_apart : (names : List (List ℕ)) (more : List ℕ) (b : Bool) (e : Entry) (ls : List (List ℕ)) → AllByRecursion (λ l. l ≢ 112 ∷ more) ls → AllByRecursion (λ l. l ≢ 112 ∷ more) (cond b (station_line names e ∷ []) [] ++ ls)
one_apart names more true e ls h = (no_last_line names e more, h)
one_apart names more false e ls h = h

pub all_apart : (names : List (List ℕ)) (all : Bool) (more : List ℕ) (es : List Entry) → AllByRecursion (λ l. l ≢ 112 ∷ more) (shown_lines names all es)
all_apart names all more [] = tt
all_apart names all more (e ∷ es) = one_apart names more (is_shown all e) e (shown_lines names all es) (all_apart names all more es)
