-- The texts of names and of entries.
use Rattle.std.proofs.Common.{◌≡◌, ℕ, ◌+◌, ◌<◌, ◌≤◌, Bool, true, false, ◌||◌, cond, List, [], ◌∷◌, ◌++◌, map, String, string_bytes, refl, sym, ap, ◌∙◌, append_assoc, length, drop, get_or, arith}
use Rattle.std.specs.Prelude.{slice_get, option_map, is_some, filter}
use Rattle.std.specs.List.{flat_map}
use Rattle.std.proofs.lemmas.Grind.{flat_map-append}
use Rattle.std.proofs.lemmas.List.Elements.{filter-append}
use Rattle.std.proofs.lemmas.List.{drop_more}
use Rattle.std.proofs.Math.ListN.{drop_of_length-le}
use Rattle.std.proofs.lemmas.Option.{slice_get-map}
use Rattle.std.specs.declared.alloc.Global.{Global}
use Rattle.irig_plant.specs.declared.entry.Entry.{Entry}
use Rattle.report_log.specs.declared.shown.Shown.{Shown}
use Rattle.report_log.specs.Text.{entry_text, entries_text, tick_text, ticks_text, lines_text}

pub name_in_texts : (names : List (String Global)) (reader : ℕ) → slice_get (map string_bytes names) reader ≡ option_map string_bytes (slice_get names reader)
name_in_texts names reader = slice_get-map string_bytes names reader

-- ---- a text to which the lines of entries are added

-- what is added so far, with the lines of the entries that are left, is what is to be added
pub record HasAdded (names : List (List ℕ)) (all : Bool) (before now : List ℕ) (rest entries : List Entry) : Type 0 where
  pub is : now ++ entries_text names all rest ≡ before ++ entries_text names all entries

if_kept : (line : Entry → List ℕ) (b : Bool) (e : Entry) (es : List Entry) → flat_map line (cond b (e ∷ es) es) ≡ cond b (line e) [] ++ flat_map line es
if_kept line true e es = refl
if_kept line false e es = refl

first_line : (names : List (List ℕ)) (all : Bool) (e : Entry) (es : List Entry) (b : Bool) → b ≡ (all || is_some e.report.announce)
    → entries_text names all (e ∷ es) ≡ cond b (entry_text names e) [] ++ entries_text names all es
unfolding entries_text
first_line names all e es b h = rw h (if_kept (entry_text names) (all || is_some e.report.announce) e (filter (λ entry. all || is_some entry.report.announce) es))

pub line_added : (names : List (List ℕ)) (all : Bool) (before now next : List ℕ) (entries : List Entry) (i : ℕ) (d : Entry) (b : Bool) → i < length entries → HasAdded names all before now (drop i entries) entries
    → b ≡ (all || is_some (get_or entries i d).report.announce) → b ≡ true → next ≡ now ++ entry_text names (get_or entries i d) → HasAdded names all before next (drop (i + 1) entries) entries
line_added names all before now next entries i d b in_list so_far h written added =
    let e = get_or entries i d in
    let rest = drop (i + 1) entries in
    record {
      is = ap (λ t. t ++ entries_text names all rest) added ∙ append_assoc now (entry_text names e) (entries_text names all rest)
          ∙ ap (λ t. now ++ t) (sym (first_line names all e rest true (sym written ∙ h)) ∙ ap (λ es. entries_text names all es) (sym (drop_more entries i d in_list))) ∙ so_far.is;
    }

pub line_left_out : (names : List (List ℕ)) (all : Bool) (before now : List ℕ) (entries : List Entry) (i : ℕ) (d : Entry) (b : Bool) → i < length entries → HasAdded names all before now (drop i entries) entries
    → b ≡ (all || is_some (get_or entries i d).report.announce) → b ≡ false → HasAdded names all before now (drop (i + 1) entries) entries
line_left_out names all before now entries i d b in_list so_far h silent =
    let e = get_or entries i d in
    let rest = drop (i + 1) entries in
    record { is = ap (λ t. now ++ t) (sym (first_line names all e rest false (sym silent ∙ h)) ∙ ap (λ es. entries_text names all es) (sym (drop_more entries i d in_list))) ∙ so_far.is }

nothing_left : (names : List (List ℕ)) (all : Bool) (text : List ℕ) → text ++ entries_text names all [] ≡ text
unfolding entries_text
nothing_left names all [] = refl
nothing_left names all (t ∷ ts) = ap (λ s. t ∷ s) (nothing_left names all ts)

pub all_added : (names : List (List ℕ)) (all : Bool) (before now : List ℕ) (entries : List Entry) (i : ℕ) → length entries ≤ i → HasAdded names all before now (drop i entries) entries → now ≡ before ++ entries_text names all entries
all_added names all before now entries i past h =
    sym (nothing_left names all now) ∙ ap (λ es. now ++ entries_text names all es) (sym (drop_of_length-le entries past)) ∙ h.is

-- ---- one list of entries after another

pub entries_join : (names : List (List ℕ)) (all : Bool) (a b : List Entry) → entries_text names all (a ++ b) ≡ entries_text names all a ++ entries_text names all b
unfolding entries_text
entries_join names all a b =
    let written : Entry → Bool = λ entry. all || is_some entry.report.announce in
    ap (flat_map (entry_text names)) (filter-append written a b) ∙ flat_map-append (entry_text names) (filter written a) (filter written b)

ticks_join : (names : List (List ℕ)) (all : Bool) (a b : List Entry) → ticks_text names all (a ++ b) ≡ ticks_text names all a ++ ticks_text names all b
unfolding ticks_text
ticks_join names all a b = flat_map-append (tick_text names all) a b

pub lines_join : (names : List (List ℕ)) (shown : Shown) (a b : List Entry) → lines_text names shown (a ++ b) ≡ lines_text names shown a ++ lines_text names shown b
lines_join names shown a b =
    let all = shown.all in
    elim (shown.ports) as (λ p. cond p (ticks_text names all (a ++ b)) (entries_text names all (a ++ b)) ≡ cond p (ticks_text names all a) (entries_text names all a) ++ cond p (ticks_text names all b) (entries_text names all b)) [
      | true ↦ ticks_join names all a b
      | false ↦ entries_join names all a b
    ]

pub no_lines : (names : List (List ℕ)) (shown : Shown) → lines_text names shown [] ≡ []
unfolding entries_text ticks_text
no_lines names shown = elim (shown.ports) as (λ p. cond p (ticks_text names shown.all []) (entries_text names shown.all []) ≡ []) [
  | true ↦ refl
  | false ↦ refl
]
