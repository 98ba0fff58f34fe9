-- What a summary of a device's seconds says of them.
use Rattle.std.proofs.Common.{◌≡◌, ◌⊎◌, ℕ, zero, suc, ◌+◌, ◌-◌, Bool, true, false, cond, List, [], ◌∷◌, Option, Some, None, refl, sym, ap, ◌∙◌, subst, arith, inl, inr}
use Rattle.std.specs.Prelude.{◌==◌, ◌&&◌, is_some, max}
use Rattle.std.specs.List.{Contains}
use Rattle.std.proofs.Math.Nat.{le-max_left, le-max_right, max-eq_left, max-eq_right, min-eq_left, min-eq_right, min-le_left, min-le_right}
use Rattle.std.proofs.lemmas.Bool.{cases_lt, eq-eqb, eqb-true}
use Rattle.irig_simulated.specs.declared.told_second.ToldSecond.{ToldSecond}
use Rattle.irig_station.specs.declared.entry.Entry.{Entry}
use Rattle.irig_station.specs.declared.entry.Entry.TheVariants.{Told, Stamped}
use Rattle.report_blame.specs.declared.reach.Off.{Off}
use Rattle.report_blame.specs.declared.reach.Reach.{Reach}
use Rattle.report_blame.specs.Reaches.{HasAnnounced, IsReachOf, LiesWithin, SomeAnnounced, greater, lesser, off_of, reach_after, reach_begun, reach_more, reach_of}

-- ---- entries

first_of_all : (e : Entry) (es : List Entry) → Contains (e ∷ es) e
first_of_all e es = (0, omega arith, refl)

one_later : (e one : Entry) (es : List Entry) → Contains es one → Contains (e ∷ es) one
one_later e one es h = (suc h.0, omega (arith, h.1), h.2)

cases_contained : (e one : Entry) (es : List Entry) → Contains (e ∷ es) one → (e ≡ one) ⊎ Contains es one
cases_contained e one es (zero, lt, is) = inl is
cases_contained e one es (suc k, lt, is) = inr (k, omega (arith, lt), is)

-- ---- the two ends

off_same : (a b c d : ℕ) → a ≡ b → c ≡ d → ◌≡◌ {A = Off} (record { before_us = a; behind_us = c }) (record { before_us = b; behind_us = d })
off_same a b c d first second = ap (λ n. record { before_us = n; behind_us = c }) first ∙ ap (λ n. record { before_us = b; behind_us = n }) second

-- of two seconds the one or the other
lesser_is : (a b : ToldSecond) → (lesser (off_of a) (off_of b) ≡ off_of a) ⊎ (lesser (off_of a) (off_of b) ≡ off_of b)
lesser_is a b =
    let before_a = a.edge_count - a.told_count in
    let before_b = b.edge_count - b.told_count in
    let behind_a = a.told_count - a.edge_count in
    let behind_b = b.told_count - b.edge_count in
    elim (cases_lt (a.told_count + b.edge_count) (b.told_count + a.edge_count)) [
      | inl lt ↦ inl (off_same _ _ _ _ (max-eq_left {n = before_a} {m = before_b} (omega (arith, lt))) (min-eq_left {n = behind_a} {m = behind_b} (omega (arith, lt))))
      | inr ge ↦ inr (off_same _ _ _ _ (max-eq_right {n = before_a} {m = before_b} (omega (arith, ge))) (min-eq_right {n = behind_b} {m = behind_a} (omega (arith, ge))))
    ]

greater_is : (a b : ToldSecond) → (greater (off_of a) (off_of b) ≡ off_of a) ⊎ (greater (off_of a) (off_of b) ≡ off_of b)
greater_is a b =
    let before_a = a.edge_count - a.told_count in
    let before_b = b.edge_count - b.told_count in
    let behind_a = a.told_count - a.edge_count in
    let behind_b = b.told_count - b.edge_count in
    elim (cases_lt (a.told_count + b.edge_count) (b.told_count + a.edge_count)) [
      | inl lt ↦ inr (off_same _ _ _ _ (min-eq_right {n = before_b} {m = before_a} (omega (arith, lt))) (max-eq_right {n = behind_a} {m = behind_b} (omega (arith, lt))))
      | inr ge ↦ inl (off_same _ _ _ _ (min-eq_left {n = before_a} {m = before_b} (omega (arith, ge))) (max-eq_left {n = behind_a} {m = behind_b} (omega (arith, ge))))
    ]

max_is : (a b : ℕ) → (max a b ≡ a) ⊎ (max a b ≡ b)
max_is a b = elim (cases_lt a b) [ inl lt ↦ inr (max-eq_right {n = a} {m = b} (omega (arith, lt))) | inr ge ↦ inl (max-eq_left {n = a} {m = b} ge) ]

-- ---- within

lies_alone : (told : ToldSecond) → LiesWithin (reach_begun told) told
lies_alone told = record { least = omega arith; greatest = omega arith; bound = omega arith }

module _ (x : Reach) (other : ToldSecond) where
  lies_still : (told : ToldSecond) → LiesWithin x told → LiesWithin (reach_more x other) told
  lies_still told h = record {
    least = omega (arith, h.least, le-max_left x.least.before_us (off_of other).before_us, min-le_left x.least.behind_us (off_of other).behind_us);
    greatest = omega (arith, h.greatest, min-le_left x.greatest.before_us (off_of other).before_us, le-max_left x.greatest.behind_us (off_of other).behind_us);
    bound = omega (arith, h.bound, le-max_left x.bound_us other.beat.bound_us);
  }

  lies_too : LiesWithin (reach_more x other) other
  lies_too =
      let alone = lies_alone other in
      record {
        least = omega (arith, alone.least, le-max_right x.least.before_us (off_of other).before_us, min-le_right x.least.behind_us (off_of other).behind_us);
        greatest = omega (arith, alone.greatest, min-le_right x.greatest.before_us (off_of other).before_us, le-max_right x.greatest.behind_us (off_of other).behind_us);
        bound = omega (arith, le-max_right x.bound_us other.beat.bound_us);
      }

-- ---- one entry more

-- what is known of no summary, and of one
abbrev pub Fits : (r : ℕ) → List Entry → Option Reach → Type 0
Fits r es None = (told : ToldSecond) → ¬ HasAnnounced r es told
Fits r es (Some x) = IsReachOf r es x

announced_still : (r : ℕ) (e : Entry) (es : List Entry) (told : ToldSecond) → HasAnnounced r es told → HasAnnounced r (e ∷ es) told
announced_still r e es told h = record { logged = one_later e (Told r told) es h.logged; announced = h.announced }

some_still : (r : ℕ) (e : Entry) (es : List Entry) (Holds Still : ToldSecond → Type 0) → ((told : ToldSecond) → Holds told → Still told) → SomeAnnounced r es Holds → SomeAnnounced r (e ∷ es) Still
some_still r e es Holds Still leads h = (h.0, announced_still r e es h.0 h.1, leads h.0 h.2)

-- that is no announced second of the device
module _ (r : ℕ) (e : Entry) (es : List Entry) (no : (told : ToldSecond) → e ≡ Told r told → is_some told.beat.report.announce ≡ true → ⊥) where
  before_it : (told : ToldSecond) → HasAnnounced r (e ∷ es) told → HasAnnounced r es told
  before_it told h = elim (cases_contained e (Told r told) es h.logged) [
    | inl same ↦ absurd (no told same h.announced)
    | inr later ↦ record { logged = later; announced = h.announced }
  ]

  fits_still : (o : Option Reach) → Fits r es o → Fits r (e ∷ es) o
  fits_still None none = λ told h. none told (before_it told h)
  fits_still (Some x) h = record {
    within = λ told at. h.within told (before_it told at);
    least = some_still r e es (λ told. off_of told ≡ x.least) (λ told. off_of told ≡ x.least) (λ told is. is) h.least;
    greatest = some_still r e es (λ told. off_of told ≡ x.greatest) (λ told. off_of told ≡ x.greatest) (λ told is. is) h.greatest;
    bound = some_still r e es (λ told. told.beat.bound_us ≡ x.bound_us) (λ told. told.beat.bound_us ≡ x.bound_us) (λ told is. is) h.bound;
  }

-- that is one
module _ (r : ℕ) (told : ToldSecond) (es : List Entry) (said : is_some told.beat.report.announce ≡ true) where
  newest : HasAnnounced r (Told r told ∷ es) told
  newest = record { logged = first_of_all (Told r told) es; announced = said }

  -- each is this one, or one before it
  within_both : (x : Reach) → LiesWithin x told → ((one : ToldSecond) → HasAnnounced r es one → LiesWithin x one) → (one : ToldSecond) → HasAnnounced r (Told r told ∷ es) one → LiesWithin x one
  within_both x here before one h = elim (cases_contained (Told r told) (Told r one) es h.logged) [
    | inl same ↦ let is : told ≡ one = cc in subst (LiesWithin x) is here
    | inr later ↦ before one (record { logged = later; announced = h.announced })
  ]

  -- an end that is this one's or the one before
  at_end : {A : Type 0} (end : ToldSecond → A) (was now : A) → SomeAnnounced r es (λ one. end one ≡ was) → (now ≡ was) ⊎ (now ≡ end told) → SomeAnnounced r (Told r told ∷ es) (λ one. end one ≡ now)
  at_end end was now h (inl same) = some_still r (Told r told) es (λ one. end one ≡ was) (λ one. end one ≡ now) (λ one is. is ∙ sym same) h
  at_end end was now h (inr own) = (told, newest, sym own)

  least_end : (x : Reach) → SomeAnnounced r es (λ one. off_of one ≡ x.least) → (lesser x.least (off_of told) ≡ x.least) ⊎ (lesser x.least (off_of told) ≡ off_of told)
  least_end x h = subst (λ o. (lesser o (off_of told) ≡ o) ⊎ (lesser o (off_of told) ≡ off_of told)) h.2 (lesser_is h.0 told)

  greatest_end : (x : Reach) → SomeAnnounced r es (λ one. off_of one ≡ x.greatest) → (greater x.greatest (off_of told) ≡ x.greatest) ⊎ (greater x.greatest (off_of told) ≡ off_of told)
  greatest_end x h = subst (λ o. (greater o (off_of told) ≡ o) ⊎ (greater o (off_of told) ≡ off_of told)) h.2 (greater_is h.0 told)

  fits_more : (o : Option Reach) → Fits r es o → Fits r (Told r told ∷ es) (reach_after o told)
  fits_more None none = record {
    within = within_both (reach_begun told) (lies_alone told) (λ one h. absurd (none one h));
    least = (told, newest, refl);
    greatest = (told, newest, refl);
    bound = (told, newest, refl);
  }
  fits_more (Some x) h = record {
    within = within_both (reach_more x told) (lies_too x told) (λ one at. lies_still x told one (h.within one at));
    least = at_end off_of x.least (lesser x.least (off_of told)) h.least (least_end x h.least);
    greatest = at_end off_of x.greatest (greater x.greatest (off_of told)) h.greatest (greatest_end x h.greatest);
    bound = at_end (λ one. one.beat.bound_us) x.bound_us (max x.bound_us told.beat.bound_us) h.bound (max_is x.bound_us told.beat.bound_us);
  }

-- ---- all entries

silent_is_none : (r q : ℕ) (told one : ToldSecond) → is_some told.beat.report.announce ≡ false → ◌≡◌ {A = Entry} (Told q told) (Told r one) → is_some one.beat.report.announce ≡ true → ⊥
silent_is_none r q told one none same said = (let is : told ≡ one = cc in (let both : true ≡ false = sym said ∙ ap (λ (t : ToldSecond). is_some t.beat.report.announce) (sym is) ∙ none in cc))

another_is_none : (r q : ℕ) (told one : ToldSecond) → (q == r) ≡ false → ◌≡◌ {A = Entry} (Told q told) (Told r one) → ⊥
another_is_none r q told one other same = (let is : q ≡ r = cc in (let both : true ≡ false = sym (eq-eqb q r is) ∙ other in cc))

by_tests : (r q : ℕ) (told : ToldSecond) (es : List Entry) (o : Option Reach) (own said : Bool) → (q == r) ≡ own → is_some told.beat.report.announce ≡ said → Fits r es o → Fits r (Told q told ∷ es) (cond (own && said) (reach_after o told) o)
by_tests r q told es o true true own said h =
    let same : q ≡ r = eqb-true q r own in
    subst (λ q. Fits r (Told q told ∷ es) (reach_after o told)) (sym same) (fits_more r told es said o h)
by_tests r q told es o true false own said h = fits_still r (Told q told) es (λ one same announced. silent_is_none r q told one said same announced) o h
by_tests r q told es o false said own is h = fits_still r (Told q told) es (λ one same announced. another_is_none r q told one own same) o h

pub fits : (r : ℕ) (es : List Entry) → Fits r es (reach_of r es)
fits r [] = λ told h. omega (arith, h.logged.1)
fits r (Told q told ∷ es) = by_tests r q told es (reach_of r es) (q == r) (is_some told.beat.report.announce) refl refl (fits r es)
fits r (Stamped q time stamp ∷ es) = fits_still r (Stamped q time stamp) es (λ told same announced. absurd cc) (reach_of r es) (fits r es)

pub all_within : (r : ℕ) (es : List Entry) (x : Reach) → reach_of r es ≡ Some x → IsReachOf r es x
all_within r es x is = subst (Fits r es) is (fits r es)

pub none_announced : (r : ℕ) (es : List Entry) → reach_of r es ≡ None → (told : ToldSecond) → ¬ HasAnnounced r es told
none_announced r es is = subst (Fits r es) is (fits r es)
