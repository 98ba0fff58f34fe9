-- How far off the seconds of devices lay, as it is kept.
use Rattle.std.proofs.Common.{◌≡◌, ◌≢◌, ℕ, ◌<◌, Bool, true, false, cond, List, [], ◌∷◌, All, length, get_or, set, Option, None, refl, sym, ap, ◌∙◌, arith}
use Rattle.std.specs.Prelude.{◌==◌, ◌&&◌, is_some, vec_len}
use Rattle.std.proofs.lemmas.Bool.{eq-eqb}
use Rattle.std.proofs.lemmas.Option.{unwrap_or-slice_get}
use Rattle.irig_plant.proofs.ListLaws.{apart, each_set}
use Rattle.irig_simulated.specs.declared.told_second.ToldSecond.{ToldSecond}
use Rattle.irig_station.specs.declared.entry.Entry.{Entry}
use Rattle.irig_station.specs.declared.entry.Entry.TheVariants.{Told}
use Rattle.report_blame.specs.declared.reach.Reach.{Reach}
use Rattle.report_blame.specs.declared.reach.Reaches.{Reaches}
use Rattle.report_blame.specs.Reaches.{AreReaches, reach_after, reach_at, reach_of}

-- ---- nothing was told

pub none_yet : (x : Reaches) (n : ℕ) → vec_len x.each ≡ n → All (λ (o : Option Reach). o ≡ None) x.each.items → AreReaches x n []
none_yet x n count new = record { count = count; each = λ r d lt. new r d (omega (arith, lt, count, x.each.ok.0)) }

-- ---- a told second

-- that is not announced counts for nobody
if_silent : (b said : Bool) (x y : Option Reach) → said ≡ false → y ≡ cond (b && said) x y
if_silent true said x y none = rw none refl
if_silent false said x y none = refl

pub silent : (x : Reaches) (n : ℕ) (before : List Entry) (q : ℕ) (told : ToldSecond) → is_some told.beat.report.announce ≡ false → AreReaches x n before → AreReaches x n (Told q told ∷ before)
silent x n before q told none at = record {
  count = at.count;
  each = λ r d lt. at.each r d lt ∙ if_silent (q == r) (is_some told.beat.report.announce) (reach_after (reach_of r before) told) (reach_of r before) none;
}

-- one that is announced counts for its device
for_others : (q r : ℕ) (before : List Entry) (told : ToldSecond) → r ≢ q → reach_of r before ≡ reach_of r (Told q told ∷ before)
for_others q r before told other = rw (apart q r (λ e. other (sym e))) refl

for_its_own : (q : ℕ) (before : List Entry) (told : ToldSecond) → is_some told.beat.report.announce ≡ true → reach_after (reach_of q before) told ≡ reach_of q (Told q told ∷ before)
for_its_own q before told said = rw (eq-eqb q q refl, said) refl

pub announced : (n : ℕ) (before : List Entry) (xs : List (Option Reach)) (q : ℕ) (told : ToldSecond) (reach : Option Reach) → q < length xs → is_some told.beat.report.announce ≡ true
    → reach ≡ get_or xs q reach → q < n → ((r : ℕ) (d : Option Reach) → r < n → get_or xs r d ≡ reach_of r before)
    → (r : ℕ) (d : Option Reach) → r < n → get_or (set xs q (reach_after reach told)) r d ≡ reach_of r (Told q told ∷ before)
announced n before xs q told reach inside said is low each =
    each_set (λ r z. z ≡ reach_of r before) (λ r z. z ≡ reach_of r (Told q told ∷ before)) n xs q (reach_after reach told) inside each
    (λ r z other was. was ∙ for_others q r before told other)
    (ap (λ o. reach_after o told) (is ∙ each q reach low) ∙ for_its_own q before told said)

-- ---- that of a device

pub reach_known : (x : Reaches) (n : ℕ) (before : List Entry) (r : ℕ) → r < n → AreReaches x n before → reach_at x.each.items r ≡ reach_of r before
reach_known x n before r lt at = unwrap_or-slice_get x.each.items r None ∙ at.each r None lt
