-- What the values of a plant line keep to: how many there are, and the ranges of a reader's rules.
use Rattle.std.proofs.Common.{◌≡◌, ◌≤◌, ◌⊎◌, ℕ, ℤ, pos, negsuc, Bool, true, false, cond, List, [], ◌∷◌, length, All, Option, Some, None, Ok, refl, ap, sym, subst, rules, inl, inr, suc, codes}
use Rattle.std.specs.Prelude.{option_map, nat_le, ◌&&◌, ◌==◌}
use Rattle.std.proofs.lemmas.Bool.{and_parts, or_cases}
use Rattle.std.proofs.lemmas.Option.{same_Some, option_and_then_some}
use Rattle.std.proofs.lemmas.List.Elements.{All-nil, All-cons}
use Rattle.serde_json.specs.Data.{Data}
use Rattle.serde_json.specs.Find.{get}
use Rattle.text_faults.specs.declared.refusal.Refusal.TheVariants.{Value}
use Rattle.scenario_json.specs.Json.{all_of, natural_within, whole_at, items_at}
use Rattle.text_faults.specs.Refusals.{or_else}
use Rattle.scenario_json.specs.Fields.{natural_at}
use Rattle.irig_reader.specs.declared.rules.ReaderRules.{ReaderRules}
use Rattle.irig_reader.specs.Rules.{IsReaderRules}
use Rattle.scenario_values.specs.declared.plant_shape.Version.{Version}
use Rattle.scenario_values.specs.declared.plant_shape.Version.TheVariants.{One, Two, Three}
use Rattle.scenario_values.specs.PlantShape.{lock_after, holdover}
use Rattle.scenario_values.specs.PlantValues.{GeneratorValues, ReaderValues, PlantValues, is_count, generator_of, generators_of, reader_rules_of, table_if, reader_of, readers_in, start_of, leaps_of, rules_of, plant_values}

-- ---- lists of values

-- there are as many values as items, and each is of its item
pub record AreOf {A : Type 0} (f : Data → Option A) (Fact : A → Type 0) (ds : List Data) (xs : List A) : Type 0 where
  pub count : length xs ≡ length ds
  pub facts : All Fact xs

one_more : {A : Type 0} (f : Data → Option A) (Fact : A → Type 0) (d : Data) (ds : List Data) (x : A) (xs ys : List A) → Fact x → AreOf f Fact ds ys → x ∷ ys ≡ xs → AreOf f Fact (d ∷ ds) xs
one_more f Fact d ds x xs ys fact h e = subst (AreOf f Fact (d ∷ ds)) e (record { count = ap suc h.count; facts = All-cons Fact x ys fact h.facts })

mapped_more : {A : Type 0} (f : Data → Option A) (Fact : A → Type 0) (d : Data) (ds : List Data) (x : A) (xs : List A) (o : Option (List A)) → Fact x → ((ys : List A) → o ≡ Some ys → AreOf f Fact ds ys) → option_map (λ ys. x ∷ ys) o ≡ Some xs
    → AreOf f Fact (d ∷ ds) xs
mapped_more f Fact d ds x xs None fact h e = absurd cc
mapped_more f Fact d ds x xs (Some ys) fact h e = one_more f Fact d ds x xs ys fact (h ys refl) (same_Some (x ∷ ys) xs e)

pub all_are_of : {A : Type 0} (f : Data → Option A) (Fact : A → Type 0) → ((d : Data) (x : A) → f d ≡ Some x → Fact x) → (ds : List Data) (xs : List A) → all_of f ds ≡ Some xs → AreOf f Fact ds xs
all_are_of f Fact each [] xs e = subst (AreOf f Fact []) (same_Some [] xs e) (record { count = refl; facts = All-nil Fact })
all_are_of f Fact each (d ∷ ds) xs e =
    option_and_then_some (λ x. option_map (λ xs. x ∷ xs) (all_of f ds)) (f d) xs e
    (λ x is rest. mapped_more f Fact d ds x xs (all_of f ds) (each d x is) (all_are_of f Fact each ds) rest)

-- ---- generators

three_or_five : (version : Version) (n : ℕ) → is_count version n ≡ true → (n ≡ 3) ⊎ (n ≡ 5)
three_or_five One n h = inl (search rules)
three_or_five Two n h = inl (search rules)
three_or_five Three n h = elim (or_cases (n == 3) (n == 5) h) [ inl three ↦ inl (search rules) | inr five ↦ inr (search rules) ]

counted : (version : Version) (items : List Data) (xs : List GeneratorValues) (b : Bool) → is_count version (length items) ≡ b → cond b (all_of generator_of items) None ≡ Some xs → (length xs ≡ 3) ⊎ (length xs ≡ 5)
counted version items xs false is e = absurd cc
counted version items xs true is e =
    let same = (all_are_of generator_of (λ x. Unit {0}) (λ d x h. tt) items xs e).count in
    subst (λ n. (n ≡ 3) ⊎ (n ≡ 5)) (sym same) (three_or_five version (length items) is)

generators_count : (version : Version) (d : Data) (xs : List GeneratorValues) → generators_of version d ≡ Some xs → (length xs ≡ 3) ⊎ (length xs ≡ 5)
unfolding generators_of
generators_count version d xs e =
    option_and_then_some (λ items. cond (is_count version (length items)) (all_of generator_of items) None) (items_at _ d) xs e
    (λ items is rest. counted version items xs (is_count version (length items)) refl rest)

-- ---- readers

pub within : (least most : ℕ) (z : ℤ) (n : ℕ) → natural_within least most z ≡ Some n → (least ≤ n) × (n ≤ most)
within least most (pos m) n e = if_within (nat_le least m && nat_le m most) refl e
  where
    if_within : (b : Bool) → (nat_le least m && nat_le m most) ≡ b → cond b (Some m) None ≡ Some n → (least ≤ n) × (n ≤ most)
    if_within false is e = absurd cc
    if_within true is e =
        let parts = and_parts (nat_le least m) (nat_le m most) is in
        let low : nat_le least m ≡ true = parts.0 in
        let high : nat_le m most ≡ true = parts.1 in
        subst (λ k. (least ≤ k) × (k ≤ most)) (same_Some m n e) (search rules, search rules)
within least most (negsuc m) n e = absurd cc

rules_in_range : (d : Data) (x : ReaderRules) → reader_rules_of d ≡ Some x → IsReaderRules x
unfolding reader_rules_of
rules_in_range d x e =
    option_and_then_some _ (natural_at lock_after d) x e (λ votes is rest.
    option_and_then_some _ (natural_at holdover d) x rest (λ seconds is_held made.
    let locks = option_and_then_some (natural_within 1 60) (whole_at _ d) votes is (λ z at inside. within 1 60 z votes inside) in
    let holds = option_and_then_some (natural_within 0 1000000) (whole_at _ d) seconds is_held (λ z at inside. within 0 1000000 z seconds inside) in
    subst IsReaderRules (same_Some _ x made) (record { lock_after = locks; holdover = holds.1 })))

pub reader_in_range : (d : Data) (x : ReaderValues) → reader_of d ≡ Some x → IsReaderRules x.rules
unfolding reader_of
reader_in_range d x e =
    option_and_then_some _ (reader_rules_of d) x e (λ own is rest.
    option_and_then_some _ (table_if (get (codes "table") d)) x rest (λ table at made.
    subst (λ (x : ReaderValues). IsReaderRules x.rules) (same_Some _ x made) (rules_in_range d own is)))

-- ---- all of them

-- three or five generators, and for each reader's object a reader with rules in range
pub record AreInRange (d : Data) (v : PlantValues) : Type 0 where
  pub generators : (length v.generators ≡ 3) ⊎ (length v.generators ≡ 5)
  pub readers : length v.readers ≡ length (readers_in d)
  pub range : All (λ x. IsReaderRules x.rules) v.readers

pub values_in_range : (version : Version) (d : Data) (v : PlantValues) → plant_values version d ≡ Some v → AreInRange d v
unfolding plant_values
values_in_range version d v e =
    option_and_then_some _ (start_of d) v e (λ start started e1.
    option_and_then_some _ (leaps_of d) v e1 (λ leaps leapt e2.
    option_and_then_some _ (rules_of d) v e2 (λ rules ruled e3.
    option_and_then_some _ (generators_of version d) v e3 (λ generators generated e4.
    option_and_then_some _ (all_of reader_of (readers_in d)) v e4 (λ readers read made.
    let are = all_are_of reader_of (λ x. IsReaderRules x.rules) reader_in_range (readers_in d) readers read in
    subst (AreInRange d) (same_Some _ v made) (record { generators = generators_count version d generators generated; readers = are.count; range = are.facts }))))))

pub found_is : {A : Type 0} (o : Option A) (x : A) → or_else Value o ≡ Ok x → o ≡ Some x
found_is None x e = absurd cc
found_is (Some y) x e = cc

-- so for the values that a line's object has, if there are any
pub found_in_range : (version : Version) (d : Data) (v : PlantValues) → or_else Value (plant_values version d) ≡ Ok v → AreInRange d v
found_in_range version d v e = values_in_range version d v (found_is (plant_values version d) v e)
