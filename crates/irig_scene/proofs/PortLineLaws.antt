-- A log without the lines of what ports told is the log of a run that does not show them.
use Rattle.std.proofs.Common.{◌≡◌, ℕ, ◌<◌, ◌^◌, ◌||◌, Bool, true, false, not, cond, List, [], ◌∷◌, ◌++◌, length, map, All, Option, Some, None, refl, ap, sym, ◌∙◌, append-nil, arith, inl, inr}
use Rattle.std.specs.Prelude.{filter, is_some}
use Rattle.std.specs.List.{flat_map}
use Rattle.std.specs.Fmt.{decimal}
use Rattle.std.proofs.lemmas.Bool.Decides.{eqb_tells}
use Rattle.std.proofs.lemmas.Fmt.{decimal_nonempty}
use Rattle.std.proofs.lemmas.Grind.{flat_map-append}
use Rattle.std.proofs.lemmas.List.Elements.{filter-append, All-from_recursion}
use Rattle.text_faults.specs.declared.refusal.Refusal.{Refusal}
use Rattle.irig_plant.specs.declared.audit.Audit.{Audit}
use Rattle.irig_plant.specs.declared.audit.Audit.TheVariants.{Kept, Broken, FalseTable}
use Rattle.irig_plant.specs.declared.entry.Entry.{Entry}
use Rattle.irig_plant.specs.Schedule.{log_of}
use Rattle.report_run.specs.Lines.{unlines}
use Rattle.irig_scene.specs.Scene.{Scene, meaning_of, ending_text, output_shown, output}
use Rattle.report_run.specs.Meanings.{Refused}
use Rattle.report_log.specs.Text.{entry_text, entries_text, entries_alone, port_line, refusal_text}
use Rattle.report_log.specs.LogLines.{whole_lines, ShowsNothing}
use Rattle.irig_scene.specs.PortLines.{is_port_line, without_port_lines, ports_too}
use Rattle.report_log.proofs.WordLaws.{IsNumber, AreNames, decimal_number}
use Rattle.irig_scene.proofs.NameLaws.{are_names_named}
use Rattle.report_log.proofs.LogLaws.{entry_line, line_of_entry, one_whole}
use Rattle.report_log.proofs.LastLines.{refusal_line, refusal_lines, refusal_text_is, audit_line, audit_lines, audit_text_is}
use Rattle.report_log.proofs.RowLaws.{entry_rows, tick_rows, port_row, row_of_ports, port_row_whole, port_row_shows_nothing, lines_of_rows}
use Rattle.irig_scene.proofs.TrueLines.{HasFewEdges, edges_few, scene_sound, output_of}

abbrev keep : List ℕ → Bool
keep line = not (is_port_line line)

-- ---- lines of entries

digit_first : (l rest : List ℕ) → 0 < length l → IsNumber l → is_port_line (l ++ rest) ≡ false
digit_first [] rest some h = absurd (omega (arith, some))
digit_first (x ∷ xs) rest some h = elim (eqb_tells x 32) [ inl e ↦ absurd (omega (arith, e.1, h.0.0)) | inr e ↦ e.0 ]

pub entry_is_none : (names : List (List ℕ)) (e : Entry) → e.edge < 2 ^ 64 → is_port_line (entry_line names e) ≡ false
entry_is_none names e few = digit_first (decimal e.edge) _ (decimal_nonempty e.edge few) (decimal_number e.edge)

-- all that is left of the lines of ticks
rows_kept : (names : List (List ℕ)) (all : Bool) (es : List Entry) → HasFewEdges es → filter keep (tick_rows names all es) ≡ entry_rows names all es
rows_kept names all [] few = refl
rows_kept names all (e ∷ es) few =
    filter-append keep (entry_rows names all (e ∷ [])) (port_row names e ∷ tick_rows names all es)
    ∙ ap (λ ls. filter keep (entry_rows names all (e ∷ [])) ++ ls) (rows_kept names all es few.1)
    ∙ go (all || is_some e.report.announce)
  where
    go : (b : Bool) → filter keep (map (entry_line names) (cond b (e ∷ []) [])) ++ entry_rows names all es ≡ map (entry_line names) (cond b (e ∷ filter (λ e. all || is_some e.report.announce) es) (filter (λ e. all || is_some e.report.announce) es))
    go true = rw (entry_is_none names e few.0) refl
    go false = refl

text_of_rows : (names : List (List ℕ)) (es : List Entry) → unlines (map (entry_line names) es) ≡ flat_map (entry_text names) es
text_of_rows names [] = refl
text_of_rows names (e ∷ es) =
    let one : entry_line names e ++ 10 ∷ [] ≡ entry_text names e = sym (sym (append-nil (entry_text names e)) ∙ line_of_entry names e []) in
    ap (λ t. t ++ unlines (map (entry_line names) es)) one ∙ ap (λ t. entry_text names e ++ t) (text_of_rows names es)

text_of_entry_rows : (names : List (List ℕ)) (all : Bool) (es : List Entry) → unlines (entry_rows names all es) ≡ entries_text names all es
unfolding entries_text
text_of_entry_rows names all es = text_of_rows names (filter (λ e. all || is_some e.report.announce) es)

-- ---- last lines

pub refusal_is_none : (n : ℕ) (k : Refusal) → is_port_line (refusal_line n k) ≡ false
unfolding refusal_line
refusal_is_none n k = refl

audit_is_none : (names : List (List ℕ)) (a : Audit) → is_port_line (audit_line names a) ≡ false
unfolding audit_line
audit_is_none names Kept = refl
audit_is_none names (Broken reader edge) = refl
audit_is_none names (FalseTable reader) = refl

one_kept : (l : List ℕ) → is_port_line l ≡ false → unlines (filter keep (l ∷ [])) ≡ l ++ 10 ∷ []
one_kept l h = rw h (append-nil (l ++ 10 ∷ []))

line_kept : (text l : List ℕ) → whole_lines text ≡ l ∷ [] → text ≡ l ++ 10 ∷ [] → is_port_line l ≡ false → without_port_lines text ≡ text
line_kept text l lines is h = ap (λ ls. unlines (filter keep ls)) lines ∙ one_kept l h ∙ sym is

refusal_kept : (n : ℕ) (k : Refusal) → without_port_lines (refusal_text n k) ≡ refusal_text n k
refusal_kept n k = line_kept (refusal_text n k) (refusal_line n k) (refusal_lines n k) (refusal_text_is n k) (refusal_is_none n k)

none_kept : without_port_lines [] ≡ []
unfolding whole_lines
none_kept = refl

abbrev HaveNames : Option Scene → Type 0
HaveNames None = Unit {0}
HaveNames (Some x) = AreNames x.plan.names

ending_kept : (k : Option Refused) (o : Option Scene) → HaveNames o → without_port_lines (ending_text k o) ≡ ending_text k o
ending_kept (Some k) o names = refusal_kept k.line k.refusal
ending_kept None None names = none_kept
ending_kept None (Some x) names =
    line_kept _ (audit_line x.plan.names _) (audit_lines x.plan.names _ names) (audit_text_is x.plan.names _) (audit_is_none x.plan.names _)

only : (l : List ℕ) → is_port_line l ≡ false → All (λ line. is_port_line line ≡ false) (l ∷ [])
only l h = All-from_recursion (λ line. is_port_line line ≡ false) (l ∷ []) (h, tt)

pub last_is_none : (x : Scene) (k : Option Refused) → AreNames x.plan.names → All (λ line. is_port_line line ≡ false) (whole_lines (ending_text k (Some x)))
last_is_none x (Some k) names = rw (refusal_lines k.line k.refusal) (only (refusal_line k.line k.refusal) (refusal_is_none k.line k.refusal))
last_is_none x None names = rw (audit_lines x.plan.names _ names) (only (audit_line x.plan.names _) (audit_is_none x.plan.names _))

-- ---- a line of ports

pub ports_are_one : (names : List (List ℕ)) (e : Entry) → AreNames names
    → (line : List ℕ) × (whole_lines (port_line names e) ≡ line ∷ []) × (is_port_line line ≡ true) × ShowsNothing names line
ports_are_one names e h =
    let row = port_row names e in
    let is : port_line names e ≡ row ++ 10 ∷ [] = sym (append-nil (port_line names e)) ∙ row_of_ports names e [] in
    (row, ap whole_lines is ∙ one_whole row (port_row_whole names e h), refl, λ r n time. port_row_shows_nothing names _ r n time)

-- ---- all that is written

without : (x : List ℕ) (all : Bool) (o : Option Scene) → (meaning_of x).scene ≡ o → without_port_lines (output_shown x (ports_too all)) ≡ output x all
without x all None means =
    let k = (meaning_of x).refused in
    ap without_port_lines (output_of (ports_too all) x None means) ∙ ending_kept k None tt ∙ sym (output_of (entries_alone all) x None means)
without x all (Some at) means =
    let k = (meaning_of x).refused in
    let sound = scene_sound x at means in
    let names = are_names_named at.plan.names sound.plan.names in
    let es = log_of at.plan.setup at.events in
    let last = ending_text k (Some at) in
    let lines = tick_rows at.plan.names all es in
    let few = edges_few at.plan.setup at.events sound.played in
    ap without_port_lines (output_of (ports_too all) x (Some at) means)
    ∙ ap (λ ls. unlines (filter keep ls)) (lines_of_rows at.plan.names (ports_too all) es last names)
    ∙ ap unlines (filter-append keep lines (whole_lines last) ∙ ap (λ ls. ls ++ filter keep (whole_lines last)) (rows_kept at.plan.names all es few))
    ∙ flat_map-append (λ l. l ++ 10 ∷ []) (entry_rows at.plan.names all es) (filter keep (whole_lines last))
    ∙ ap (λ t. t ++ without_port_lines last) (text_of_entry_rows at.plan.names all es)
    ∙ ap (λ t. entries_text at.plan.names all es ++ t) (ending_kept k (Some at) names)
    ∙ sym (output_of (entries_alone all) x (Some at) means)

pub without_ports : (x : List ℕ) (all : Bool) → without_port_lines (output_shown x (ports_too all)) ≡ output x all
without_ports x all = without x all (meaning_of x).scene refl
