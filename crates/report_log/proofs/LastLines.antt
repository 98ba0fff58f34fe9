-- The last line of a log.
use Rattle.std.proofs.Common.{◌≡◌, ◌≢◌, ℕ, true, false, List, [], ◌∷◌, ◌++◌, Some, refl, ap, sym, subst, ◌∙◌, append_assoc, arith, codes, inl, inr}
use Rattle.std.specs.Prelude.{slice_get, not, ◌==◌}
use Rattle.std.specs.List.{AllByRecursion, list_all}
use Rattle.std.proofs.lemmas.Bool.{and_parts, not-true, both_ways}
use Rattle.std.proofs.lemmas.Bool.Decides.{eqb_tells}
use Rattle.std.specs.Fmt.{decimal}
use Rattle.text_faults.specs.declared.refusal.Refusal.{Refusal}
use Rattle.text_faults.specs.declared.refusal.Refusal.TheVariants as refusal
use Rattle.text_faults.specs.Refusals.{number_of, name_of}
use Rattle.irig_plant.specs.declared.audit.Audit.{Audit}
use Rattle.irig_plant.specs.declared.audit.Audit.TheVariants.{Kept, Broken, FalseTable}
use Rattle.report_log.specs.Text.{name_at, audit_text, refusal_text}
use Rattle.report_log.specs.LogLines.{whole_lines, Shows}
use Rattle.report_log.proofs.WordLaws.{AreNames, decimal_word, name_is_word}
use Rattle.report_log.proofs.LogLaws.{NoNewline, all_join, word_line, one_whole, shows_digit}

pub literal_line : (l : List ℕ) → list_all (λ b. not (b == 10)) l ≡ true → NoNewline l
literal_line [] h = tt
literal_line (b ∷ bs) h =
    let parts = and_parts (not (b == 10)) (list_all (λ b. not (b == 10)) bs) h in
    let test : (b == 10) ≡ false = not-true (b == 10) parts.0 in
    let apart : b ≢ 10 = elim (eqb_tells b 10) [ inl e ↦ absurd (both_ways (b == 10) test e.0) | inr e ↦ e.1 ] in
    (apart, literal_line bs parts.1)

-- ---- a refusal

unfoldable pub refusal_line : ℕ → Refusal → List ℕ
refusal_line n k = codes "refused: line " ++ (decimal n ++ (codes ": " ++ (decimal (number_of k) ++ (codes " " ++ name_of k))))

refusal_name_line : (k : Refusal) → NoNewline (name_of k)
refusal_name_line refusal.BadStart = literal_line (codes "BadStart") refl
refusal_name_line refusal.LeapNotMonthEnd = literal_line (codes "LeapNotMonthEnd") refl
refusal_name_line refusal.LeapTwice = literal_line (codes "LeapTwice") refl
refusal_name_line refusal.OutOfYears = literal_line (codes "OutOfYears") refl
refusal_name_line refusal.Offset = literal_line (codes "Offset") refl
refusal_name_line refusal.Changes = literal_line (codes "Changes") refl
refusal_name_line refusal.NoSuchReader = literal_line (codes "NoSuchReader") refl
refusal_name_line refusal.NoSuchGenerator = literal_line (codes "NoSuchGenerator") refl
refusal_name_line refusal.FutureReplay = literal_line (codes "FutureReplay") refl
refusal_name_line refusal.EndOfYears = literal_line (codes "EndOfYears") refl
refusal_name_line refusal.TooLong = literal_line (codes "TooLong") refl
refusal_name_line refusal.Json = literal_line (codes "Json") refl
refusal_name_line refusal.Shape = literal_line (codes "Shape") refl
refusal_name_line refusal.Value = literal_line (codes "Value") refl
refusal_name_line refusal.Version = literal_line (codes "Version") refl
refusal_name_line refusal.Names = literal_line (codes "Names") refl
refusal_name_line refusal.NoPlant = literal_line (codes "NoPlant") refl
refusal_name_line refusal.TooManyLines = literal_line (codes "TooManyLines") refl
refusal_name_line refusal.TableEnd = literal_line (codes "TableEnd") refl
refusal_name_line refusal.TableLong = literal_line (codes "TableLong") refl
refusal_name_line refusal.TableDay = literal_line (codes "TableDay") refl
refusal_name_line refusal.TableTwice = literal_line (codes "TableTwice") refl
refusal_name_line refusal.Drift = literal_line (codes "Drift") refl
refusal_name_line refusal.BeforeStart = literal_line (codes "BeforeStart") refl

pub decimal_line : (n : ℕ) → NoNewline (decimal n)
decimal_line n = word_line (decimal n) (decimal_word n)

refusal_line_whole : (n : ℕ) (k : Refusal) → NoNewline (refusal_line n k)
unfolding refusal_line
refusal_line_whole n k =
    all_join _ (codes "refused: line ") _ (literal_line (codes "refused: line ") refl) (all_join _ (decimal n) _ (decimal_line n)
    (all_join _ (codes ": ") _ (literal_line (codes ": ") refl) (all_join _ (decimal (number_of k)) _ (decimal_line (number_of k))
    (all_join _ (codes " ") (name_of k) (literal_line (codes " ") refl) (refusal_name_line k)))))

pub refusal_text_is : (n : ℕ) (k : Refusal) → refusal_text n k ≡ refusal_line n k ++ 10 ∷ []
unfolding refusal_text refusal_line
refusal_text_is n k = simp append_assoc

pub refusal_lines : (n : ℕ) (k : Refusal) → whole_lines (refusal_text n k) ≡ refusal_line n k ∷ []
refusal_lines n k = ap whole_lines (refusal_text_is n k) ∙ one_whole (refusal_line n k) (refusal_line_whole n k)

-- ---- an audit

unfoldable pub audit_line : List (List ℕ) → Audit → List ℕ
audit_line names Kept = codes "premises kept"
audit_line names (Broken reader edge) = codes "premises broken: edge " ++ (decimal edge ++ (codes " reader " ++ name_at names reader))
audit_line names (FalseTable reader) = codes "premises broken: table of reader " ++ name_at names reader

pub name_line : (names : List (List ℕ)) (r : ℕ) → AreNames names → NoNewline (name_at names r)
name_line names r h = word_line (name_at names r) (name_is_word names r h)

audit_line_whole : (names : List (List ℕ)) (a : Audit) → AreNames names → NoNewline (audit_line names a)
unfolding audit_line
audit_line_whole names Kept h = literal_line (codes "premises kept") refl
audit_line_whole names (Broken reader edge) h =
    all_join _ (codes "premises broken: edge ") _ (literal_line (codes "premises broken: edge ") refl) (all_join _ (decimal edge) _ (decimal_line edge)
    (all_join _ (codes " reader ") _ (literal_line (codes " reader ") refl) (name_line names reader h)))
audit_line_whole names (FalseTable reader) h =
    all_join _ (codes "premises broken: table of reader ") _ (literal_line (codes "premises broken: table of reader ") refl) (name_line names reader h)

pub audit_text_is : (names : List (List ℕ)) (a : Audit) → audit_text names a ≡ audit_line names a ++ 10 ∷ []
unfolding audit_text audit_line
audit_text_is names Kept = refl
audit_text_is names (Broken reader edge) = simp append_assoc
audit_text_is names (FalseTable reader) = simp append_assoc

pub audit_lines : (names : List (List ℕ)) (a : Audit) → AreNames names → whole_lines (audit_text names a) ≡ audit_line names a ∷ []
audit_lines names a h = ap whole_lines (audit_text_is names a) ∙ one_whole (audit_line names a) (audit_line_whole names a h)

-- ---- what they show

-- a last line shows nothing, and only an audit that is kept says so
pub record IsLastLine (names : List (List ℕ)) (kept : Type 0) (line : List ℕ) : Type 0 where
  pub shows_nothing : (r n : ℕ) (time : List ℕ) → ¬ Shows names line r n time
  pub says_kept : line ≡ codes "premises kept" → kept

refusal_is_last : (names : List (List ℕ)) (n : ℕ) (k : Refusal) (kept : Type 0) → IsLastLine names kept (refusal_line n k)
unfolding refusal_line
refusal_is_last names n k kept = record {
  shows_nothing = λ r n time shows. omega (arith, shows_digit names 114 _ r n time shows);
  says_kept = λ e. absurd cc;
}

audit_is_last : (names : List (List ℕ)) (a : Audit) → IsLastLine names (a ≡ Kept) (audit_line names a)
unfolding audit_line
audit_is_last names Kept = record {
  shows_nothing = λ r n time shows. omega (arith, shows_digit names 112 _ r n time shows);
  says_kept = λ e. refl;
}
audit_is_last names (Broken reader edge) = record {
  shows_nothing = λ r n time shows. omega (arith, shows_digit names 112 _ r n time shows);
  says_kept = λ e. let apart : Some 98 ≡ Some 107 = ap (λ l. slice_get l 9) e in absurd cc;
}
audit_is_last names (FalseTable reader) = record {
  shows_nothing = λ r n time shows. omega (arith, shows_digit names 112 _ r n time shows);
  says_kept = λ e. let apart : Some 98 ≡ Some 107 = ap (λ l. slice_get l 9) e in absurd cc;
}

-- each whole line of a last text is a last line
pub refusal_last : (names : List (List ℕ)) (n : ℕ) (k : Refusal) (kept : Type 0) → AllByRecursion (IsLastLine names kept) (whole_lines (refusal_text n k))
refusal_last names n k kept = subst (AllByRecursion (IsLastLine names kept)) (sym (refusal_lines n k)) (refusal_is_last names n k kept, tt)

pub audit_last : (names : List (List ℕ)) (a : Audit) → AreNames names → AllByRecursion (IsLastLine names (a ≡ Kept)) (whole_lines (audit_text names a))
audit_last names a h = subst (AllByRecursion (IsLastLine names (a ≡ Kept))) (sym (audit_lines names a h)) (audit_is_last names a, tt)
