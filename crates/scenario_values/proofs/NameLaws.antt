-- The names of readers, by how far they have been read.
use Rattle.std.proofs.Common.{◌≡◌, ℕ, ◌+◌, ◌<◌, ◌≤◌, Bool, true, false, not, ◌||◌, cond, List, [], ◌∷◌, ◌++◌, map, length, drop, get_or, Ok, Err, refl, sym, ap, ◌∙◌, append_assoc, String, string_bytes, inl, inr}
use Rattle.std.specs.List.{list_all, list_any}
use Rattle.std.specs.Str.{bytes_eq}
use Rattle.std.proofs.lemmas.Bool.{both_ways, not-true, not-false, or_cases, or_parts, or_from, and_left, and_right, and_from, and_parts, not_from_false, false_from_ne_true}
use Rattle.std.proofs.lemmas.List.{drop_more, length-map, append-nil}
use Rattle.std.proofs.lemmas.List.Folds.{list_any-append, list_all-map}
use Rattle.std.proofs.Math.ListN.{drop_of_length-le}
use Rattle.std.proofs.lemmas.Slice.Eq.{bytes_eq-Decides}
use Rattle.std.specs.declared.alloc.Global.{Global}
use Rattle.serde_json.specs.declared.value.Value.{Value}
use Rattle.serde_json.specs.View.{view}
use Rattle.text_faults.specs.declared.refusal.Refusal.TheVariants.{Names}
use Rattle.scenario_values.specs.Names.{one_to_sixteen, is_name, all_different, name_in, are_names, names_in}

-- ---- texts that are different

-- a text that stands again is found
found_later : (t n : List ℕ) (ts rest : List (List ℕ)) → bytes_eq t n ≡ true → list_any (bytes_eq t) (ts ++ n ∷ rest) ≡ true
found_later t n [] rest same = ap (λ b. b || list_any (bytes_eq t) rest) same
found_later t n (s ∷ ts) rest same = or_right (bytes_eq t s) _ (found_later t n ts rest same)
  where
    or_right : (a b : Bool) → b ≡ true → (a || b) ≡ true
    or_right true b e = refl
    or_right false b e = e

other_way : (t n : List ℕ) → bytes_eq n t ≡ true → bytes_eq t n ≡ true
other_way t n same = (bytes_eq-Decides t n).1 (sym ((bytes_eq-Decides n t).0 same))

-- a text that stands earlier comes twice
pub comes_twice : (names : List (List ℕ)) (n : List ℕ) (rest : List (List ℕ)) → list_any (bytes_eq n) names ≡ true → all_different (names ++ n ∷ rest) ≡ false
comes_twice [] n rest h = absurd cc
comes_twice (t ∷ ts) n rest h = elim (or_cases (bytes_eq n t) (list_any (bytes_eq n) ts) h) [
  | inl same ↦ and_left _ _ (ap not (found_later t n ts rest (other_way t n same)))
  | inr later ↦ and_right _ _ (comes_twice ts n rest later)
]

new_before : (names : List (List ℕ)) (n : List ℕ) → all_different names ≡ true → list_any (bytes_eq n) names ≡ false → all_different (names ++ n ∷ []) ≡ true
new_before [] n different h = refl
new_before (t ∷ ts) n different h =
    let parts = and_parts (not (list_any (bytes_eq t) ts)) (all_different ts) different in
    let apart = or_parts (bytes_eq n t) (list_any (bytes_eq n) ts) h in
    let unlike : bytes_eq t n ≡ false = false_from_ne_true (bytes_eq t n) (λ same. both_ways (bytes_eq n t) apart.0 (other_way n t same)) in
    and_from _ _ (not_from_false _ (list_any-append (bytes_eq t) ts (n ∷ []) ∙ or_from _ _ (not-true _ parts.0) (or_from _ _ unlike refl))) (new_before ts n parts.1 apart.1)

pub among_texts : (n : List ℕ) (names : List (String Global)) → list_any (λ other. bytes_eq n (string_bytes other)) names ≡ list_any (bytes_eq n) (map string_bytes names)
among_texts n [] = refl
among_texts n (t ∷ ts) = ap (λ b. bytes_eq n (string_bytes t) || b) (among_texts n ts)

-- ---- names read so far

-- the names so far are different, and with those that are left they are all
pub record HasNamed (names rest all : List (List ℕ)) : Type 0 where
  pub whole : names ++ rest ≡ all
  pub different : all_different names ≡ true

-- the names that readers' objects give
abbrev pub given_names : List Value → List (List ℕ)
given_names readers = map name_in (map view readers)

first_left : (readers : List Value) (i : ℕ) (d : Value) → i < length readers → given_names (drop i readers) ≡ name_in (view (get_or readers i d)) ∷ given_names (drop (i + 1) readers)
first_left readers i d h = ap given_names (drop_more readers i d h)

pub named_on : (names next : List (List ℕ)) (n : List ℕ) (readers : List Value) (i : ℕ) (d : Value) (b : Bool) → i < length readers → HasNamed names (given_names (drop i readers)) (given_names readers)
    → n ≡ name_in (view (get_or readers i d)) → b ≡ not (list_any (bytes_eq n) names) → b ≡ true → next ≡ names ++ n ∷ [] → HasNamed next (given_names (drop (i + 1) readers)) (given_names readers)
named_on names next n readers i d b in_list h is new is_new added =
    let rest = given_names (drop (i + 1) readers) in
    record {
      whole = ap (λ ns. ns ++ rest) added ∙ append_assoc names (n ∷ []) rest ∙ ap (λ ns. names ++ ns) (ap (λ m. m ∷ rest) is ∙ sym (first_left readers i d in_list)) ∙ h.whole;
      different = ap all_different added ∙ new_before names n h.different (not-true _ (sym new ∙ is_new));
    }

-- ---- what a plant's readers are named

counted : (readers : List Value) → one_to_sixteen (length (given_names readers)) ≡ one_to_sixteen (length readers)
counted readers = ap one_to_sixteen (length-map (map view readers) name_in ∙ length-map readers view)

each_named : (readers : List Value) → list_all is_name (given_names readers) ≡ list_all (λ reader. is_name (name_in (view reader))) readers
each_named readers = list_all-map is_name name_in (map view readers) ∙ list_all-map (λ d. is_name (name_in d)) view readers

answered : (readers : List Value) (b : Bool) → are_names (given_names readers) ≡ b → names_in (map view readers) ≡ cond b (Ok (given_names readers)) (Err Names)
unfolding names_in
answered readers b h = ap (λ c. cond c (Ok (given_names readers)) (Err Names)) h

pub too_few_or_many : (readers : List Value) (b : Bool) → b ≡ one_to_sixteen (length readers) → b ≡ false → names_in (map view readers) ≡ Err Names
unfolding are_names
too_few_or_many readers b h no_count = answered readers false (and_left _ _ (counted readers ∙ sym h ∙ no_count))

pub without_name : (readers : List Value) (b : Bool) → b ≡ list_all (λ reader. is_name (name_in (view reader))) readers → b ≡ false → names_in (map view readers) ≡ Err Names
unfolding are_names
without_name readers b h nameless = answered readers false (and_right _ _ (and_left _ _ (each_named readers ∙ sym h ∙ nameless)))

pub named_twice : (names : List (List ℕ)) (n : List ℕ) (readers : List Value) (i : ℕ) (d : Value) (b : Bool) → i < length readers → HasNamed names (given_names (drop i readers)) (given_names readers)
    → n ≡ name_in (view (get_or readers i d)) → b ≡ not (list_any (bytes_eq n) names) → b ≡ false → names_in (map view readers) ≡ Err Names
unfolding are_names
named_twice names n readers i d b in_list h is new is_old =
    let rest = given_names (drop (i + 1) readers) in
    let whole : names ++ n ∷ rest ≡ given_names readers = ap (λ ns. names ++ ns) (ap (λ m. m ∷ rest) is ∙ sym (first_left readers i d in_list)) ∙ h.whole in
    let stands : list_any (bytes_eq n) names ≡ true = not-false _ (sym new ∙ is_old) in
    answered readers false (and_right _ _ (and_right _ _ (ap all_different (sym whole) ∙ comes_twice names n rest stands)))

pub all_named : (names : List (List ℕ)) (readers : List Value) (i : ℕ) (a b : Bool) → a ≡ one_to_sixteen (length readers) → a ≡ true
    → b ≡ list_all (λ reader. is_name (name_in (view reader))) readers → b ≡ true
    → length readers ≤ i → HasNamed names (given_names (drop i readers)) (given_names readers) → names_in (map view readers) ≡ Ok names
unfolding are_names
all_named names readers i a b count few each good past h =
    let whole : names ≡ given_names readers = sym (append-nil names) ∙ ap (λ rs. names ++ given_names rs) (sym (drop_of_length-le readers past)) ∙ h.whole in
    answered readers true (and_from _ _ (counted readers ∙ sym count ∙ few) (and_from _ _ (each_named readers ∙ sym each ∙ good) (ap all_different (sym whole) ∙ h.different)))
    ∙ ap Ok (sym whole)
