-- The seconds of a timeline: there is at most one for each number, and the one after.
use Rattle.std.proofs.Common.{◌≡◌, ℕ, zero, suc, ◌+◌, ◌-◌, ◌*◌, ◌^◌, ◌<◌, ◌≤◌, Bool, true, false, cond, eqb, ltb, List, [], ◌∷◌, ◌++◌, Option, Some, None, is_some, refl, sym, ap, subst, ◌∙◌, arith, inl, inr}
use Rattle.std.specs.Option.{option_or}
use Rattle.std.proofs.lemmas.Bool.{cases_Bool, cases_lt, cases_order, ltb-false, eq-eqb, ne_eqb, both_ways}
use Rattle.irig_time.specs.declared.second.UtcSecond.{UtcSecond}
use Rattle.irig_time.specs.declared.mark.Mark.{Mark}
use Rattle.irig_time.specs.declared.claim.Claim.{Claim}
use Rattle.irig_time.specs.declared.leap.Leap.{Leap}
use Rattle.irig_time.specs.declared.leap.Leap.TheVariants.{Insert, Delete}
use Rattle.irig_time.specs.Days.{is_month_end}
use Rattle.irig_time.specs.Timelines.{TimelineValue, leap_of, length_by, day_length, sum_below, seconds_in, IsSecond, IsTrueClaim, true_mark}
use Rattle.irig_time.specs.TimelineFaults.{leap_fault, first_leap_fault}

pub length_bounds : (o : Option Leap) → (86399 ≤ length_by o) × (length_by o ≤ 86401)
length_bounds None = (omega arith, omega arith)
length_bounds (Some Insert) = (omega arith, omega arith)
length_bounds (Some Delete) = (omega arith, omega arith)

-- ---- sums

grows : (f : ℕ → ℕ) (k j : ℕ) → k < j → sum_below f k + f k ≤ sum_below f j
grows f k zero h = absurd (omega arith)
grows f k (suc j) h =
    elim (cases_lt k j) [
      | inl lt ↦ omega (arith, grows f k j lt)
      | inr ge ↦ let e : k ≡ j = omega arith in subst (λ (x : ℕ). sum_below f k + f k ≤ sum_below f x + f x) e (omega arith)
    ]

pub seconds_bounds : (leaps : List (ℕ × Leap)) (d k : ℕ) → (86399 * k ≤ seconds_in leaps d k) × (seconds_in leaps d k ≤ 86401 * k)
seconds_bounds leaps d zero = (omega arith, omega arith)
seconds_bounds leaps d (suc k) =
    let so_far = seconds_bounds leaps d k in
    let here = length_bounds (leap_of leaps (d + k)) in
    (omega (arith, so_far, here), omega (arith, so_far, here))

-- one more day
pub seconds_to_next : (leaps : List (ℕ × Leap)) (from day : ℕ) → from ≤ day → seconds_in leaps from (day + 1 - from) ≡ seconds_in leaps from (day - from) + day_length leaps day
seconds_to_next leaps from day h =
    let e : day + 1 - from ≡ suc (day - from) = omega arith in
    let here : from + (day - from) ≡ day = omega arith in
    ap (seconds_in leaps from) e ∙ ap (λ (x : ℕ). seconds_in leaps from (day - from) + day_length leaps x) here

-- all of a day lies before a later one
pub seconds_before_later : (leaps : List (ℕ × Leap)) (from day later : ℕ) → from ≤ day → day < later → seconds_in leaps from (day - from) + day_length leaps day ≤ seconds_in leaps from (later - from)
seconds_before_later leaps from day later h lt =
    let here : from + (day - from) ≡ day = omega arith in
    subst (λ (x : ℕ). seconds_in leaps from (day - from) + day_length leaps x ≤ seconds_in leaps from (later - from)) here (grows (λ k. day_length leaps (from + k)) (day - from) (later - from) (omega arith))

-- ---- at most one second for each number

pub in_order : (t : TimelineValue) (n m : ℕ) (u v : UtcSecond) → IsSecond t n u → IsSecond t m v → u.day < v.day → n < m
in_order t n m u v a b lt =
    omega (arith, seconds_before_later t.leaps t.start.day u.day v.day a.from lt, a.sod, a.sum, b.sum)

pub same_second : (u v : UtcSecond) → u.day ≡ v.day → u.sod ≡ v.sod → u ≡ v
same_second u v d s = let e : ◌≡◌ {A = UtcSecond} (record { day = u.day; sod = u.sod }) (record { day = v.day; sod = v.sod }) = rw (d, s) refl in e

pub some_same : (u v : UtcSecond) → u ≡ v → ◌≡◌ {A = Option UtcSecond} (Some u) (Some v)
some_same u v e = ap (λ (x : UtcSecond). let o : Option UtcSecond = Some x in o) e

pub one_second : (t : TimelineValue) (n : ℕ) (u v : UtcSecond) → IsSecond t n u → IsSecond t n v → u ≡ v
one_second t n u v a b =
    let low : ¬ (u.day < v.day) = λ lt. omega (arith, in_order t n n u v a b lt) in
    let high : ¬ (v.day < u.day) = λ lt. omega (arith, in_order t n n v u b a lt) in
    let day : u.day ≡ v.day = elim (cases_order u.day v.day) [ inl e ↦ e | inr o ↦ absurd (elim o [ inl lt ↦ low lt | inr gt ↦ high gt ]) ] in
    let sums : seconds_in t.leaps t.start.day (u.day - t.start.day) ≡ seconds_in t.leaps t.start.day (v.day - t.start.day) = ap (λ (d : ℕ). seconds_in t.leaps t.start.day (d - t.start.day)) day in
    same_second u v day (omega (arith, sums, a.sum, b.sum))

-- ---- the second after

pub same_day : (t : TimelineValue) (n : ℕ) (u : UtcSecond) → IsSecond t n u → u.sod + 1 < day_length t.leaps u.day → IsSecond t (n + 1) (record { day = u.day; sod = u.sod + 1 })
same_day t n u a h = record { from = a.from; to = a.to; sod = h; sum = omega (arith, a.sum) }

pub new_day : (t : TimelineValue) (n : ℕ) (u : UtcSecond) → IsSecond t n u → day_length t.leaps u.day ≤ u.sod + 1 → u.day < 36523 → IsSecond t (n + 1) (record { day = u.day + 1; sod = 0 })
new_day t n u a h low = record {
  from = omega (arith, a.from);
  to = omega arith;
  sod = omega (arith, length_bounds (leap_of t.leaps (u.day + 1)));
  sum = omega (arith, seconds_to_next t.leaps t.start.day u.day a.from, a.sum, a.sod);
}

-- the numbers are few
pub few : (t : TimelineValue) (n : ℕ) (u : UtcSecond) → IsSecond t n u → t.start.sod + n < 2 ^ 32
few t n u a =
    omega (arith, a.sum, a.sod, a.to, (seconds_bounds t.leaps t.start.day (u.day - t.start.day)).1, (length_bounds (leap_of t.leaps u.day)).1)

-- ---- what a sound list of leaps gives

pub unless : {A : Type 0} (b : Bool) (x : A) (o : Option A) → cond b (Some x) o ≡ None → (b ≡ false) × (o ≡ None)
unless true x o h = absurd cc
unless false x o h = (refl, h)

only : {A : Type 0} (b : Bool) (x : A) (o : Option A) → cond b o (Some x) ≡ None → (b ≡ true) × (o ≡ None)
only true x o h = (refl, h)
only false x o h = absurd cc

pub neither : {A : Type 0} (o p : Option A) → option_or o p ≡ None → (o ≡ None) × (p ≡ None)
neither None p h = (refl, h)
neither (Some x) p h = absurd cc

pub record IsFree (before : List (ℕ × Leap)) (day : ℕ) : Type 0 where
  pub served : (1 ≤ day) × (day ≤ 36523)
  pub end : is_month_end day ≡ true
  pub once : is_some (leap_of before day) ≡ false

served_from : (day : ℕ) → ltb day 1 ≡ false → 1 ≤ day
served_from day h = ltb-false day 1 h

pub no_fault : (before : List (ℕ × Leap)) (day : ℕ) → leap_fault before day ≡ None → IsFree before day
no_fault before day h =
    let a = unless _ _ _ h in
    let b = unless _ _ _ a.1 in
    let c = only _ _ _ b.1 in
    let d = unless _ _ _ c.1 in
    let low : ltb day 1 ≡ false = a.0 in
    let high : ltb 36523 day ≡ false = b.0 in
    record { served = (served_from day low, ltb-false 36523 day high); end = c.0; once = d.0 }

-- a day that isn't a month's last has no leap
pub no_leap : (before xs : List (ℕ × Leap)) (day : ℕ) → first_leap_fault before xs ≡ None → is_month_end day ≡ false → leap_of xs day ≡ None
no_leap before [] day sound h = refl
no_leap before (x ∷ xs) day sound h =
    let parts = neither _ _ sound in
    let free = no_fault before x.0 parts.0 in
    let other : eqb x.0 day ≡ false = ne_eqb x.0 day (λ e. both_ways (is_month_end day) h (ap is_month_end (sym e) ∙ free.end)) in
    rw other (no_leap (before ++ x ∷ []) xs day parts.1 h)

some_more : (before : List (ℕ × Leap)) (x : ℕ × Leap) (day : ℕ) → is_some (leap_of before day) ≡ true → is_some (leap_of (before ++ x ∷ []) day) ≡ true
some_more [] x day h = absurd cc
some_more (y ∷ ys) x day h =
    elim (cases_Bool (eqb y.0 day)) [
      | inl e ↦ rw e refl
      | inr e ↦ rw e (some_more ys x day (rw e at h))
    ]

pub the_last : (before : List (ℕ × Leap)) (x : ℕ × Leap) (day : ℕ) → x.0 ≡ day → is_some (leap_of (before ++ x ∷ []) day) ≡ true
the_last [] x day h = rw (eq-eqb x.0 day h) refl
the_last (y ∷ ys) x day h =
    elim (cases_Bool (eqb y.0 day)) [
      | inl e ↦ rw e refl
      | inr e ↦ rw e (the_last ys x day h)
    ]

-- a day that has had its leap has no other
pub once_only : (before xs : List (ℕ × Leap)) (day : ℕ) → first_leap_fault before xs ≡ None → is_some (leap_of before day) ≡ true → leap_of xs day ≡ None
once_only before [] day sound h = refl
once_only before (x ∷ xs) day sound h =
    let parts = neither _ _ sound in
    let free = no_fault before x.0 parts.0 in
    let other : eqb x.0 day ≡ false = ne_eqb x.0 day (λ e. both_ways (is_some (leap_of before x.0)) free.once (ap (λ (d : ℕ). is_some (leap_of before d)) e ∙ h)) in
    rw other (once_only (before ++ x ∷ []) xs day parts.1 (some_more before x day h))

-- ---- answers

pub found_is : (t : TimelineValue) (n : ℕ) (found u : UtcSecond) → IsSecond t n found → (◌≡◌ {A = Option UtcSecond} (Some found) (Some u) → IsSecond t n u) × (IsSecond t n u → ◌≡◌ {A = Option UtcSecond} (Some found) (Some u))
found_is t n found u own =
    (λ e. let same : found ≡ u = cc e in subst (IsSecond t n) same own, λ h. some_same found u (one_second t n found u own h))

pub one_claim : (t : TimelineValue) (n : ℕ) (c d : Claim) → IsTrueClaim t n c → IsTrueClaim t n d → c ≡ d
one_claim t n c d a b =
    let m : a.second.0 ≡ b.second.0 = omega (arith, a.second.1, b.second.1) in
    let at : c.at ≡ d.at = one_second t b.second.0 c.at d.at (subst (λ (k : ℕ). IsSecond t k c.at) m a.second.2) b.second.2 in
    let mark : c.mark ≡ d.mark = a.mark ∙ ap (true_mark t.leaps) at ∙ sym b.mark in
    same_claim c.at d.at c.mark d.mark at mark
  where
    same_claim : (x y : UtcSecond) (p q : Mark) → x ≡ y → p ≡ q → ◌≡◌ {A = Claim} (record { at = x; mark = p }) (record { at = y; mark = q })
    same_claim x y p q e f = rw (e, f) refl
