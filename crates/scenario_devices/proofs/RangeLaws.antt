-- The numbers at the keys of a plant line of version 4 are in their ranges.
use Rattle.std.proofs.Common.{◌≡◌, ◌≤◌, ◌≤ℤ◌, ◌==◌, ℕ, ℤ, pos, neg_ℤ, Bool, true, false, cond, List, length, replicate, All, Option, Some, None, refl, ◌∙◌, subst, arith, rules}
use Rattle.std.specs.Prelude.{option_map, ◌&&◌, int_le}
use Rattle.std.proofs.lemmas.Bool.{and_parts}
use Rattle.std.proofs.lemmas.Option.{same_Some, option_and_then_some}
use Rattle.std.proofs.lemmas.List.{length-replicate}
use Rattle.std.proofs.lemmas.List.Elements.{All-replicate}
use Rattle.serde_json.specs.Data.{Data}
use Rattle.serde_json.specs.Find.{get}
use Rattle.scenario_json.specs.Json.{whole_of, whole_at, items_at, all_of, natural_within, integer_within}
use Rattle.scenario_json.specs.Fields.{natural_at, integer_at, natural_in}
use Rattle.scenario_values.proofs.ValueLaws.{within, all_are_of}
use Rattle.irig_simulated.specs.declared.setup.Ticking.{Ticking}
use Rattle.irig_simulated.specs.declared.setup.Ticking.TheVariants.{ByWait, Each, ByHand}
use Rattle.scenario_devices.specs.Setups.{IsTicking}
use Rattle.scenario_devices.specs.StationShape.{drift_key, gain_key, late_key, most_late, poll_key}
use Rattle.scenario_devices.specs.StationValues.{left_out_or, gain_of, lates_among, late_of, polled_each, ticking_of}

-- ---- numbers

inside : (least most z n : ℤ) → integer_within least most z ≡ Some n → (least ≤ℤ n) × (n ≤ℤ most)
inside least most z n e = if_inside (int_le least z && int_le z most) refl e
  where
    if_inside : (b : Bool) → (int_le least z && int_le z most) ≡ b → cond b (Some z) None ≡ Some n → (least ≤ℤ n) × (n ≤ℤ most)
    if_inside false is e = absurd cc
    if_inside true is e =
        let parts = and_parts (int_le least z) (int_le z most) is in
        let low : int_le least z ≡ true = parts.0 in
        let high : int_le z most ≡ true = parts.1 in
        subst (λ k. (least ≤ℤ k) × (k ≤ℤ most)) (same_Some z n e) (search rules, search rules)

-- a number of a list
pub small : (most : ℕ) (d : Data) (n : ℕ) → natural_in most d ≡ Some n → n ≤ most
small most d n e = option_and_then_some (natural_within 0 most) (whole_of d) n e (λ z is inside. (within 0 most z n inside).1)

-- what may be left out is in range if what stands there is, and what stands for it
left_out : {A : Type 0} (Fact : A → Type 0) (x : A) (o : Option Data) (found : Option A) (y : A) → Fact x → ((y : A) → found ≡ Some y → Fact y) → left_out_or x o found ≡ Some y → Fact y
left_out Fact x None found y own each e = subst Fact (same_Some x y e) own
left_out Fact x (Some d) found y own each e = each y e

-- ---- the parts of a device

pub drift_in_range : (d : Data) (n : ℕ) → natural_at drift_key d ≡ Some n → n ≤ 100
drift_in_range d n e = option_and_then_some (natural_within 0 100) (whole_at _ d) n e (λ z is inside. (within 0 100 z n inside).1)

-- at most a thousandth
abbrev IsGain : ℤ → Type 0
IsGain z = (neg_ℤ (pos 1000) ≤ℤ z) × (z ≤ℤ pos 1000)

pub gain_in_range : (d : Data) (z : ℤ) → gain_of d ≡ Some z → IsGain z
gain_in_range d z e =
    left_out IsGain (pos 0) (get gain_key.name d) (integer_at gain_key d) z (omega arith, omega arith)
    (λ z is. option_and_then_some (integer_within (neg_ℤ (pos 1000)) (pos 1000)) (whole_at _ d) z is (λ number at fits. inside (neg_ℤ (pos 1000)) (pos 1000) number z fits)) e

-- as many as there are generators, and none too late
abbrev AreLates : ℕ → List ℕ → Type 0
AreLates generators xs = (length xs ≡ generators) × All (λ us. us ≤ most_late) xs

among : (generators : ℕ) (ds : List Data) (xs : List ℕ) → lates_among generators ds ≡ Some xs → AreLates generators xs
unfolding lates_among
among generators ds xs e = if_as_many (length ds == generators) refl e
  where
    if_as_many : (b : Bool) → (length ds == generators) ≡ b → cond b (all_of (natural_in most_late) ds) None ≡ Some xs → AreLates generators xs
    if_as_many false is e = absurd cc
    if_as_many true is e =
        let are = all_are_of (natural_in most_late) (λ us. us ≤ most_late) (small most_late) ds xs e in
        let count : length ds ≡ generators = search rules in
        (are.count ∙ count, are.facts)

pub late_in_range : (generators : ℕ) (d : Data) (xs : List ℕ) → late_of generators d ≡ Some xs → AreLates generators xs
unfolding late_of
late_in_range generators d xs e =
    left_out (AreLates generators) (replicate generators 0) (get late_key.name d) _ xs
    (length-replicate generators 0, All-replicate (λ us. us ≤ most_late) generators 0 (omega arith))
    (λ xs is. option_and_then_some (lates_among generators) (items_at _ d) xs is (λ items at found. among generators items xs found)) e

polled : (n : ℕ) → n ≤ 1740000000 → IsTicking (polled_each n)
polled n few = if_none (n == 0) refl
  where
    if_none : (b : Bool) → (n == 0) ≡ b → IsTicking (cond b ByHand (Each n))
    if_none true is = tt
    if_none false is = (search rules, few)

if_polled : (o : Option ℕ) (t : Ticking) → ((n : ℕ) → o ≡ Some n → n ≤ 1740000000) → option_map polled_each o ≡ Some t → IsTicking t
if_polled None t few e = absurd cc
if_polled (Some n) t few e = subst IsTicking (same_Some (polled_each n) t e) (polled n (few n refl))

pub ticking_in_range : (d : Data) (t : Ticking) → ticking_of d ≡ Some t → IsTicking t
ticking_in_range d t e =
    left_out IsTicking ByWait (get poll_key.name d) (option_map polled_each (natural_at poll_key d)) t tt
    (λ t is. if_polled (natural_at poll_key d) t (λ n at. option_and_then_some (natural_within 0 1740000000) (whole_at _ d) n at (λ z whole fits. (within 0 1740000000 z n fits).1)) is) e
