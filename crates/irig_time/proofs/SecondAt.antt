-- The function second_at gives the second of each number, and truth_at its true claim.
use Rattle.std.proofs.Common.{◌≡◌, ◌↔◌, ℕ, zero, suc, ◌+◌, ◌-◌, ◌<◌, ◌≤◌, ltb, List, Option, Some, None, refl, sym, ap, subst, ◌∙◌, arith, inl, inr}
use Rattle.std.specs.Option.{option_map}
use Rattle.std.proofs.lemmas.Bool.{cases_Bool, cases_order, lt-ltb, le-ltb, ltb-true, ltb-false}
use Rattle.irig_time.specs.declared.second.UtcSecond.{UtcSecond}
use Rattle.irig_time.specs.declared.claim.Claim.{Claim}
use Rattle.irig_time.specs.declared.leap.Leap.{Leap}
use Rattle.irig_time.specs.Timelines.{TimelineValue, day_length, seconds_in, IsSecond, IsTrueClaim, true_mark, second_within, second_at, true_claim, truth_at}
use Rattle.irig_time.proofs.TimeLaws.{same_second, some_same}

-- a sum of days, with the first one apart
seconds_from_next : (leaps : List (ℕ × Leap)) (day k : ℕ) → seconds_in leaps day (suc k) ≡ day_length leaps day + seconds_in leaps (day + 1) k
seconds_from_next leaps day zero =
    let here : day + 0 ≡ day = omega arith in
    omega (arith, ap (day_length leaps) here)
seconds_from_next leaps day (suc k) =
    let here : day + suc k ≡ day + 1 + k = omega arith in
    omega (arith, seconds_from_next leaps day k, ap (day_length leaps) here)

-- u comes so many seconds after a day begins, in one of this many days
record IsWithin (leaps : List (ℕ × Leap)) (day days seconds : ℕ) (u : UtcSecond) : Type 0 where
  from : day ≤ u.day
  to : u.day < day + days
  sod : u.sod < day_length leaps u.day
  sum : seconds_in leaps day (u.day - day) + u.sod ≡ seconds

on_first : (leaps : List (ℕ × Leap)) (day days seconds : ℕ) (u : UtcSecond) → u.day ≡ day → u.sod ≡ seconds → seconds < day_length leaps day → IsWithin leaps day (suc days) seconds u
on_first leaps day days seconds u d s lt =
    let none : u.day - day ≡ 0 = omega arith in
    let long : day_length leaps u.day ≡ day_length leaps day = ap (day_length leaps) d in
    record { from = omega arith; to = omega arith; sod = omega arith; sum = omega (arith, ap (seconds_in leaps day) none) }

on_later : (leaps : List (ℕ × Leap)) (day days seconds : ℕ) (u : UtcSecond) → day_length leaps day ≤ seconds → IsWithin leaps (day + 1) days (seconds - day_length leaps day) u → IsWithin leaps day (suc days) seconds u
on_later leaps day days seconds u late h =
    let more : u.day - day ≡ suc (u.day - (day + 1)) = omega (arith, h.from) in
    record {
      from = omega (arith, h.from);
      to = omega (arith, h.to);
      sod = h.sod;
      sum = omega (arith, h.sum, ap (seconds_in leaps day) more, seconds_from_next leaps day (u.day - (day + 1)));
    }

from_first : (leaps : List (ℕ × Leap)) (day days seconds : ℕ) (u : UtcSecond) → IsWithin leaps day (suc days) seconds u → u.day ≡ day → (seconds < day_length leaps day) × (seconds ≡ u.sod)
from_first leaps day days seconds u h d =
    let none : u.day - day ≡ 0 = omega arith in
    let same : seconds ≡ u.sod = omega (arith, h.sum, ap (seconds_in leaps day) none) in
    let long : day_length leaps u.day ≡ day_length leaps day = ap (day_length leaps) d in
    (omega (arith, h.sod), same)

from_later : (leaps : List (ℕ × Leap)) (day days seconds : ℕ) (u : UtcSecond) → IsWithin leaps day (suc days) seconds u → day < u.day → (day_length leaps day ≤ seconds) × IsWithin leaps (day + 1) days (seconds - day_length leaps day) u
from_later leaps day days seconds u h later =
    let more : u.day - day ≡ suc (u.day - (day + 1)) = omega arith in
    let sum : day_length leaps day + seconds_in leaps (day + 1) (u.day - (day + 1)) + u.sod ≡ seconds = omega (arith, h.sum, ap (seconds_in leaps day) more, seconds_from_next leaps day (u.day - (day + 1))) in
    (omega arith, record { from = omega arith; to = omega (arith, h.to); sod = h.sod; sum = omega arith })

found : (leaps : List (ℕ × Leap)) (day days seconds : ℕ) (u : UtcSecond) → IsWithin leaps day days seconds u → second_within leaps day days seconds ≡ Some u
found leaps day zero seconds u h = absurd (omega (arith, h.from, h.to))
found leaps day (suc days) seconds u h =
    elim (cases_order u.day day) [
      | inl same ↦
          let first = from_first leaps day days seconds u h same in
          rw (lt-ltb seconds (day_length leaps day) first.0) (some_same (record { day = day; sod = seconds }) u (same_second _ u (sym same) first.1))
      | inr other ↦ elim other [
        | inl lt ↦ absurd (omega (arith, h.from, lt))
        | inr later ↦
            let rest = from_later leaps day days seconds u h later in
            rw (le-ltb seconds (day_length leaps day) rest.0) (found leaps (day + 1) days (seconds - day_length leaps day) u rest.1)
      ]
    ]

is_found : (leaps : List (ℕ × Leap)) (day days seconds : ℕ) (u : UtcSecond) → second_within leaps day days seconds ≡ Some u → IsWithin leaps day days seconds u
is_found leaps day zero seconds u e = absurd cc
is_found leaps day (suc days) seconds u e =
    elim (cases_Bool (ltb seconds (day_length leaps day))) [
      | inl lt ↦
          let here : ◌≡◌ {A = Option UtcSecond} (Some (record { day = day; sod = seconds })) (Some u) = rw lt at e in
          let same : ◌≡◌ {A = UtcSecond} (record { day = day; sod = seconds }) u = cc in
          on_first leaps day days seconds u (sym (ap (λ (x : UtcSecond). x.day) same)) (sym (ap (λ (x : UtcSecond). x.sod) same)) (ltb-true seconds (day_length leaps day) lt)
      | inr ge ↦ on_later leaps day days seconds u (ltb-false seconds (day_length leaps day) ge) (is_found leaps (day + 1) days (seconds - day_length leaps day) u (rw ge at e))
    ]

-- second_at gives the u of IsSecond
pub second_is : (t : TimelineValue) (n : ℕ) (u : UtcSecond) → (second_at t n ≡ Some u) ↔ IsSecond t n u
unfolding second_at
second_is t n u = (
  λ e.
      let h = is_found t.leaps t.start.day (36524 - t.start.day) (t.start.sod + n) u e in
      record { from = h.from; to = omega (arith, h.from, h.to); sod = h.sod; sum = h.sum },
  λ a. found t.leaps t.start.day (36524 - t.start.day) (t.start.sod + n) u (record { from = a.from; to = omega (arith, a.from, a.to); sod = a.sod; sum = a.sum }),
)

-- ---- claims

claim_parts : (leaps : List (ℕ × Leap)) (u : UtcSecond) (c : Claim) → true_claim leaps u ≡ c → (u ≡ c.at) × (c.mark ≡ true_mark leaps c.at)
claim_parts leaps u c e =
    let at : u ≡ c.at = ap (λ (x : Claim). x.at) e in
    (at, sym (ap (λ (x : Claim). x.mark) e) ∙ ap (true_mark leaps) at)

same_claim : (leaps : List (ℕ × Leap)) (u : UtcSecond) (c : Claim) → u ≡ c.at → c.mark ≡ true_mark leaps c.at → true_claim leaps u ≡ c
same_claim leaps u c at mark =
    let e : ◌≡◌ {A = Claim} (record { at = u; mark = true_mark leaps u }) (record { at = c.at; mark = c.mark }) = rw (at, mark) refl in e

mapped : (leaps : List (ℕ × Leap)) (o : Option UtcSecond) (c : Claim) → option_map (true_claim leaps) o ≡ Some c → (o ≡ Some c.at) × (c.mark ≡ true_mark leaps c.at)
mapped leaps None c e = absurd cc
mapped leaps (Some u) c e =
    let same : true_claim leaps u ≡ c = cc in
    let parts = claim_parts leaps u c same in
    (some_same u c.at parts.0, parts.1)

claim_mapped : (leaps : List (ℕ × Leap)) (c : Claim) → c.mark ≡ true_mark leaps c.at → option_map (true_claim leaps) (Some c.at) ≡ Some c
claim_mapped leaps c mark = ap (λ (x : Claim). let o : Option Claim = Some x in o) (same_claim leaps c.at c refl mark)

-- truth_at gives the c of IsTrueClaim
pub claim_is : (t : TimelineValue) (n : ℕ) (c : Claim) → (truth_at t n ≡ Some c) ↔ IsTrueClaim t (n + 1) c
claim_is t n c = (
  λ e.
      let parts = mapped t.leaps (second_at t n) c e in
      record { second = (n, refl, (second_is t n c.at).0 parts.0); mark = parts.1 },
  λ h.
      let m : h.second.0 ≡ n = omega (arith, h.second.1) in
      let at : second_at t n ≡ Some c.at = (second_is t n c.at).1 (subst (λ (k : ℕ). IsSecond t k c.at) m h.second.2) in
      ap (option_map (true_claim t.leaps)) at ∙ claim_mapped t.leaps c h.mark,
)

-- ---- answers

-- what is Some of T(n) and of nothing else is second_at
pub value_is : (t : TimelineValue) (n : ℕ) (o : Option UtcSecond) → ((u : UtcSecond) → (o ≡ Some u) ↔ IsSecond t n u) → o ≡ second_at t n
value_is t n o h = same (second_at t n) o (λ u. ((λ e. (second_is t n u).1 ((h u).0 e)), λ e. (h u).1 ((second_is t n u).0 e)))
  where
    same : (p o : Option UtcSecond) → ((u : UtcSecond) → (o ≡ Some u → p ≡ Some u) × (p ≡ Some u → o ≡ Some u)) → o ≡ p
    same p (Some u) h = sym ((h u).0 refl)
    same (Some v) None h = (h v).1 refl
    same None None h = refl
