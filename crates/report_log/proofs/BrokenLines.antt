-- What a last line says that names a broken edge, and the lines before the one of that edge.
use Rattle.std.proofs.Common.{◌≡◌, ◌≢◌, ℕ, ◌^◌, ◌<◌, ◌||◌, Bool, true, false, cond, List, [], ◌∷◌, ◌++◌, length, map, refl, ap, sym, subst, ◌∙◌, append_assoc, arith, codes}
use Rattle.std.specs.Prelude.{⊤, filter, is_some, slice_get, unwrap_or}
use Rattle.std.specs.List.{AllByRecursion}
use Rattle.std.specs.Fmt.{decimal}
use Rattle.std.proofs.lemmas.Fmt.{decimal_injective}
use Rattle.std.proofs.lemmas.List.{append_cancel_left}
use Rattle.std.proofs.lemmas.List.Elements.{filter-append}
use Rattle.text_faults.specs.declared.refusal.Refusal.{Refusal}
use Rattle.irig_plant.specs.declared.audit.Audit.{Audit}
use Rattle.irig_plant.specs.declared.audit.Audit.TheVariants.{Kept, Broken, FalseTable}
use Rattle.irig_plant.specs.declared.entry.Entry.{Entry}
use Rattle.report_log.specs.declared.shown.Shown.{Shown}
use Rattle.report_log.specs.Text.{name_at}
use Rattle.report_log.specs.LogLines.{broken_line}
use Rattle.report_log.proofs.WordLaws.{decimal_word}
use Rattle.report_log.proofs.LogLaws.{all_at, word_no_blank, split, entry_line}
use Rattle.report_log.proofs.LastLines.{refusal_line, audit_line}
use Rattle.report_log.proofs.RowLaws.{port_row, entry_rows, tick_rows, rows, each_row}

-- ---- the last line

-- the edge that an audit names has a text
abbrev pub HasFewEdge : Audit → Type 0
HasFewEdge (Broken reader edge) = edge < 2 ^ 64
HasFewEdge _ = ⊤

-- the audit names this edge and a reader of this name
pub record IsBrokenBy (names : List (List ℕ)) (a : Audit) (edge : ℕ) (name : List ℕ) : Type 0 where
  pub reader : ℕ
  pub is : a ≡ Broken reader edge
  pub named : name ≡ name_at names reader

pub says_broken : (names : List (List ℕ)) (a : Audit) (edge : ℕ) (name : List ℕ) → edge < 2 ^ 64 → HasFewEdge a → audit_line names a ≡ broken_line edge name → IsBrokenBy names a edge name
unfolding audit_line
says_broken names Kept edge name few small is = let apart : 107 ≡ 98 = ap (λ (l : List ℕ). unwrap_or (slice_get l 9) 0) is in absurd (omega (arith, apart))
says_broken names (FalseTable r) edge name few small is = let apart : 116 ≡ 101 = ap (λ (l : List ℕ). unwrap_or (slice_get l 17) 0) is in absurd (omega (arith, apart))
says_broken names (Broken r n) edge name few small is =
    let rest : decimal n ++ (codes " reader " ++ name_at names r) ≡ decimal edge ++ (codes " reader " ++ name) = append_cancel_left (codes "premises broken: edge ") _ _ is in
    let parts = split (decimal n) (decimal edge) (codes "reader " ++ name_at names r) (codes "reader " ++ name) (word_no_blank _ (decimal_word n)) (word_no_blank _ (decimal_word edge)) rest in
    record { reader = r; is = ap (Broken r) (decimal_injective n edge small few parts.0); named = sym (append_cancel_left (codes "reader ") _ _ parts.1) }

pub refusal_not_broken : (n : ℕ) (k : Refusal) (edge : ℕ) (name : List ℕ) → refusal_line n k ≢ broken_line edge name
unfolding refusal_line
refusal_not_broken n k edge name is = let apart : 114 ≡ 112 = ap (λ (l : List ℕ). unwrap_or (slice_get l 0) 0) is in absurd (omega (arith, apart))

-- ---- the lines of a log after those of another

map_join : {X Y : Type 0} (f : X → Y) (a b : List X) → map f (a ++ b) ≡ map f a ++ map f b
map_join f [] b = refl
map_join f (x ∷ a) b = ap (λ ys. f x ∷ ys) (map_join f a b)

entry_rows_join : (names : List (List ℕ)) (all : Bool) (a b : List Entry) → entry_rows names all (a ++ b) ≡ entry_rows names all a ++ entry_rows names all b
entry_rows_join names all a b =
    let passes : Entry → Bool = λ e. all || is_some e.report.announce in
    ap (map (entry_line names)) (filter-append passes a b) ∙ map_join (entry_line names) (filter passes a) (filter passes b)

tick_rows_join : (names : List (List ℕ)) (all : Bool) (a b : List Entry) → tick_rows names all (a ++ b) ≡ tick_rows names all a ++ tick_rows names all b
tick_rows_join names all [] b = refl
tick_rows_join names all (e ∷ a) b =
    let first = entry_rows names all (e ∷ []) in
    ap (λ ls. first ++ port_row names e ∷ ls) (tick_rows_join names all a b) ∙ sym (append_assoc first (port_row names e ∷ tick_rows names all a) (tick_rows names all b))

pub rows_join : (names : List (List ℕ)) (shown : Shown) (a b : List Entry) → rows names shown (a ++ b) ≡ rows names shown a ++ rows names shown b
rows_join names shown a b =
    let all = shown.all in
    elim (shown.ports) as (λ p. cond p (tick_rows names all (a ++ b)) (entry_rows names all (a ++ b)) ≡ cond p (tick_rows names all a) (entry_rows names all a) ++ cond p (tick_rows names all b) (entry_rows names all b)) [
      | true ↦ tick_rows_join names all a b
      | false ↦ entry_rows_join names all a b
    ]

-- ---- a fact of all lines but the first

abbrev pub AllAfterFirst : {X : Type 0} → (X → Type 0) → List X → Type 0
AllAfterFirst P [] = ⊤
AllAfterFirst P (x ∷ xs) = AllByRecursion P xs

after_first : {X : Type 0} (P : X → Type 0) (xs : List X) → AllByRecursion P xs → AllAfterFirst P xs
after_first P [] h = tt
after_first P (x ∷ xs) h = h.1

pub rows_after_first : (names : List (List ℕ)) (shown : Shown) (Fact : List ℕ → Type 0) (EntryFact : Entry → Type 0) → ((e : Entry) → EntryFact e → Fact (entry_line names e)) → ((bs : List ℕ) → Fact (32 ∷ bs))
    → (e : Entry) (es : List Entry) → AllByRecursion EntryFact es → AllAfterFirst Fact (rows names shown (e ∷ es))
rows_after_first names shown Fact EntryFact entry port e es h =
    let all = shown.all in
    let rest : AllByRecursion Fact (tick_rows names all es) = each_row names (record { all = all; ports = true }) Fact EntryFact entry port es h in
    let entries : AllByRecursion Fact (entry_rows names all es) = each_row names (record { all = all; ports = false }) Fact EntryFact entry port es h in
    elim (shown.ports) as (λ p. AllAfterFirst Fact (cond p (tick_rows names all (e ∷ es)) (entry_rows names all (e ∷ es)))) [
      | true ↦ elim (all || is_some e.report.announce) as (λ b. AllAfterFirst Fact (map (entry_line names) (cond b (e ∷ []) []) ++ port_row names e ∷ tick_rows names all es)) [
        | true ↦ (port _, rest)
        | false ↦ rest
      ]
      | false ↦ elim (all || is_some e.report.announce) as (λ b. AllAfterFirst Fact (map (entry_line names) (cond b (e ∷ filter (λ e. all || is_some e.report.announce) es) (filter (λ e. all || is_some e.report.announce) es)))) [
        | true ↦ entries
        | false ↦ after_first Fact (entry_rows names all es) entries
      ]
    ]

-- before one that has not this fact, all have the other
pub front_has : {X : Type 0} (F G : X → Type 0) (a b before after : List X) (x : X) → AllByRecursion F a → AllByRecursion G a → AllAfterFirst G b → a ++ b ≡ before ++ x ∷ after → ¬ G x → AllByRecursion F before
front_has F G a b [] after x f g h is not = tt
front_has F G [] [] (y ∷ ys) after x f g h is not = absurd cc
front_has F G [] (z ∷ zs) (y ∷ ys) after x f g h is not =
    let rest : zs ≡ ys ++ x ∷ after = cc in
    absurd (not (all_at G ys x after (subst (AllByRecursion G) rest h)))
front_has F G (z ∷ zs) b (y ∷ ys) after x f g h is not =
    let first : z ≡ y = cc in
    let rest : zs ++ b ≡ ys ++ x ∷ after = cc in
    (subst F first f.0, front_has F G zs b ys after x f.1 g.1 h rest not)
