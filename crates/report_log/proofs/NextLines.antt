-- What stands right behind a line of a log.
use Rattle.std.proofs.Common.{◌≡◌, ℕ, ◌||◌, Bool, true, false, cond, List, [], ◌∷◌, ◌++◌, length, map, refl, ap, ◌∙◌, arith, codes}
use Rattle.std.specs.Prelude.{⊤, is_some}
use Rattle.std.specs.List.{AllByRecursion}
use Rattle.std.specs.Fmt.{decimal}
use Rattle.std.proofs.lemmas.List.Elements.{recursion_from_All}
use Rattle.irig_reader.specs.declared.report.Cause.{Cause}
use Rattle.irig_reader.specs.declared.report.Cause.TheVariants as cause
use Rattle.irig_plant.specs.declared.entry.Entry.{Entry}
use Rattle.report_log.specs.Text.{lock_text, cause_text, time_shown_text, name_at}
use Rattle.report_log.specs.PortWords.{ShowsVoted}
use Rattle.report_log.proofs.WordLaws.{AreNames, decimal_word, lock_word, name_is_word, word_by_test}
use Rattle.report_log.proofs.LogLaws.{word_no_blank, split, entry_line, time_no_blank}
use Rattle.report_log.proofs.RowLaws.{port_row, tick_rows}

-- ---- an element and the one behind it

abbrev pub BeforeFirst : {X : Type 0} → (X → X → Type 0) → X → List X → Type 0
BeforeFirst R x [] = ⊤
BeforeFirst R x (y ∷ ys) = R x y

abbrev pub AllNext : {X : Type 0} → (X → X → Type 0) → List X → Type 0
AllNext R [] = ⊤
AllNext R (x ∷ xs) = BeforeFirst R x xs × AllNext R xs

pub next_at : {X : Type 0} (R : X → X → Type 0) (above : List X) (x y : X) (later : List X) → AllNext R (above ++ x ∷ y ∷ later) → R x y
next_at R [] x y later h = h.0
next_at R (a ∷ above) x y later h = next_at R above x y later h.1

before_any : {X : Type 0} (R : X → X → Type 0) (x : X) (ys : List X) → ((y : X) → R x y) → BeforeFirst R x ys
before_any R x [] f = tt
before_any R x (y ∷ ys) f = f y

before_by_second : {X : Type 0} (P : X → Type 0) (R : X → X → Type 0) → ((x y : X) → P y → R x y) → (x : X) (ys : List X) → AllByRecursion P ys → BeforeFirst R x ys
before_by_second P R f x [] h = tt
before_by_second P R f x (y ∷ ys) h = f x y h.0

-- of which the second always has this fact
pub next_by_second : {X : Type 0} (P : X → Type 0) (R : X → X → Type 0) → ((x y : X) → P y → R x y) → (xs : List X) → AllByRecursion P xs → AllNext R xs
next_by_second P R f [] h = tt
next_by_second P R f (x ∷ xs) h = (before_by_second P R f x xs h.1, next_by_second P R f xs h.1)

-- in a log with port lines the one of its tick stands behind an entry's line
pub next_of_ticks : (names : List (List ℕ)) (all : Bool) (R : List ℕ → List ℕ → Type 0) (P : Entry → Type 0) → ((bs y : List ℕ) → R (32 ∷ bs) y) → ((e : Entry) → P e → R (entry_line names e) (port_row names e))
    → (es : List Entry) (last : List (List ℕ)) → AllByRecursion P es → AllNext R last → AllNext R (tick_rows names all es ++ last)
next_of_ticks names all R P port entry [] last h k = k
next_of_ticks names all R P port entry (e ∷ es) last h k =
    let row = port_row names e in
    let rows = tick_rows names all es in
    let rest : AllNext R (row ∷ (rows ++ last)) = (before_any R row (rows ++ last) (port _), next_of_ticks names all R P port entry es last h.1 k) in
    elim (all || is_some e.report.announce) as (λ b. AllNext R ((map (entry_line names) (cond b (e ∷ []) []) ++ row ∷ rows) ++ last)) [
      | true ↦ (entry e h.0, rest)
      | false ↦ rest
    ]

-- ---- a line that ends in `locked voted`

cause_is : (c : Cause) → cause_text c ≡ codes "voted" → c ≡ cause.Voted
cause_is cause.Voted e = refl
cause_is cause.Held e = absurd (omega (arith, ap length e))
cause_is cause.Acquiring e = absurd (omega (arith, ap length e))
cause_is cause.NoVote e = absurd (omega (arith, ap length e))
cause_is cause.Expired e = absurd (omega (arith, ap length e))
cause_is cause.LeapGuard e = absurd (omega (arith, ap length e))
cause_is cause.Jump e = absurd (omega (arith, ap length e))
cause_is cause.RangeEnd e = absurd (omega (arith, ap length e))

pub line_voted : (names : List (List ℕ)) (e : Entry) (r n : ℕ) (time : List ℕ) → AreNames names → ShowsVoted names (entry_line names e) r n time → e.report.cause ≡ cause.Voted
line_voted names e r n time h line =
    let edges = split (decimal e.edge) (decimal n) _ _ (word_no_blank _ (decimal_word e.edge)) (word_no_blank _ (decimal_word n)) line.shows.is in
    let readers = split (name_at names e.reader) (name_at names r) _ _ (word_no_blank _ (name_is_word names e.reader h)) (word_no_blank _ (name_is_word names r h)) edges.1 in
    let times = split (time_shown_text e.report.announce) time _ _ (time_no_blank e.report.announce) (recursion_from_All _ time line.shows.word) readers.1 in
    let more : lock_text e.report.lock ++ (32 ∷ cause_text e.report.cause) ≡ codes "locked" ++ (32 ∷ codes "voted") = times.1 ∙ line.voted in
    cause_is e.report.cause (split (lock_text e.report.lock) (codes "locked") _ _ (word_no_blank _ (lock_word e.report.lock)) (word_no_blank (codes "locked") (word_by_test (codes "locked") refl)) more).1
