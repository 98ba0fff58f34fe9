-- A hold at the truth: its mark is what its last vote told, as long as the day lasts.
use Rattle.std.specs.Prelude.{◌==◌, nat_le, ◌&&◌, if◌then◌else◌}
use Rattle.std.proofs.Common.{◌≡◌, ℕ, ◌+◌, ◌-◌, ◌<◌, ◌≤◌, Bool, true, false, cond, Option, ◌⊎◌, inl, inr, refl, sym, ◌∙◌, ap, subst, arith}
use Rattle.std.proofs.lemmas.Bool.{false≢true, cases_Bool, leb-true, leb-false, eq-eqb, ne_eqb, le-leb, lt-leb, lt-ltb, le-ltb, cases_lt, cases_order}
use Rattle.irig_time.specs.declared.second.UtcSecond.{UtcSecond}
use Rattle.irig_time.specs.declared.leap.Leap.{Leap}
use Rattle.irig_time.specs.declared.mark.Mark.{Mark}
use Rattle.irig_time.specs.declared.mark.Mark.TheVariants.{Unspoken}
use Rattle.irig_time.specs.Days.{is_month_end}
use Rattle.irig_time.specs.Timelines.{TimelineValue, leap_of, day_length, mark_by, seconds_in, IsSecond, true_mark}
use Rattle.irig_time.specs.Tables.{TableValue}
use Rattle.irig_time.proofs.TimeLaws.{length_bounds, seconds_before_later, in_order, same_second, one_second, new_day}
use Rattle.irig_hold.specs.Steps.{HoldValue, mark_or, mark_kept, hold_after}
use Rattle.irig_hold.specs.Truth.{IsOnTime, IsGuarded}
use Rattle.irig_hold.proofs.HoldLaws.{truth_speaks, mark_or-truth}

-- what a hold has heard whose last vote told the second that lies so many seconds before u: the
-- mark of that vote, on the same day
abbrev pub heard_at : TimelineValue → UtcSecond → ℕ → Mark
heard_at t u since = if is_month_end u.day && nat_le (86341 + since) u.sod then mark_by (leap_of t.leaps u.day) else Unspoken

-- a hold that has come to T(n) from its last vote, and has not passed the guard without a mark
pub record IsTrueHold (t : TimelineValue) (table : TableValue) (n : ℕ) (h : HoldValue) : Type 0 where
  pub at : IsSecond t n h.last
  pub heard : h.heard ≡ heard_at t h.last (h.age + 1)
  pub past_58 : h.last.sod ≡ 86399 → ¬ IsGuarded table h

by_test : (b : Bool) (m : Mark) → (cond b m Unspoken ≡ Unspoken) ⊎ (cond b m Unspoken ≡ m)
by_test true m = inr refl
by_test false m = inl refl

pub on_time : (t : TimelineValue) (table : TableValue) (n : ℕ) (h : HoldValue) → IsTrueHold t table n h → IsOnTime t n h
on_time t table n h a = record {
  last = a.at;
  heard = elim (by_test (is_month_end h.last.day && nat_le (86341 + (h.age + 1)) h.last.sod) (mark_by (leap_of t.leaps h.last.day))) [
    | inl e ↦ inl (a.heard ∙ e)
    | inr e ↦ inr (a.heard ∙ e)
  ];
}

-- ---- the second after

abbrev plain : UtcSecond → UtcSecond
plain u = record { day = u.day; sod = u.sod + 1 }

abbrev turned : UtcSecond → UtcSecond
turned u = record { day = u.day + 1; sod = 0 }

after : (t : TimelineValue) (n : ℕ) (u v : UtcSecond) → IsSecond t n u → IsSecond t (n + 1) v → (v ≡ plain u) ⊎ (v ≡ turned u)
after t n u v a b =
    elim (cases_order u.day v.day) [
      | inl same ↦
          let sums : seconds_in t.leaps t.start.day (u.day - t.start.day) ≡ seconds_in t.leaps t.start.day (v.day - t.start.day) = ap (λ (d : ℕ). seconds_in t.leaps t.start.day (d - t.start.day)) same in
          inl (same_second v (plain u) (sym same) (omega (arith, sums, a.sum, b.sum)))
      | inr order ↦ elim order [
        | inl lt ↦
            let full : day_length t.leaps u.day ≤ u.sod + 1 = omega (arith, seconds_before_later t.leaps t.start.day u.day v.day a.from lt, a.sum, b.sum) in
            inr (one_second t (n + 1) v (turned u) b (new_day t n u a full (omega (arith, lt, b.to))))
        | inr gt ↦ absurd (omega (arith, in_order t (n + 1) n v u b a gt))
      ]
    ]

leb_same : (a b c d : ℕ) → (a ≤ b → c ≤ d) → (c ≤ d → a ≤ b) → nat_le a b ≡ nat_le c d
leb_same a b c d f g =
    elim (cases_Bool (nat_le a b)) [
      | inl e ↦ e ∙ sym (le-leb c d (f (leb-true a b e)))
      | inr e ↦ e ∙ sym (lt-leb c d (elim (cases_Bool (nat_le c d)) [ inl q ↦ absurd (false≢true (sym e ∙ le-leb a b (g (leb-true c d q)))) | inr q ↦ leb-false c d q ]))
    ]

heard_plain : (t : TimelineValue) (u : UtcSecond) (since : ℕ) (m : Mark) → m ≡ heard_at t u since → mark_kept u.day u.day m ≡ heard_at t (plain u) (since + 1)
heard_plain t u since m e =
    let same : nat_le (86341 + since) u.sod ≡ nat_le (86341 + (since + 1)) (u.sod + 1) = leb_same (86341 + since) u.sod (86341 + (since + 1)) (u.sod + 1) (λ h. omega arith) (λ h. omega arith) in
    let kept : m ≡ heard_at t (plain u) (since + 1) = e ∙ ap (λ (b : Bool). cond (is_month_end u.day && b) (mark_by (leap_of t.leaps u.day)) Unspoken) same in
    rw (eq-eqb u.day u.day refl) kept

and_none : (b c : Bool) (m : Mark) → c ≡ false → cond (b && c) m Unspoken ≡ Unspoken
and_none true c m e = rw e refl
and_none false c m e = refl

heard_turned : (t : TimelineValue) (u : UtcSecond) (since : ℕ) (m : Mark) → mark_kept u.day (u.day + 1) m ≡ heard_at t (turned u) (since + 1)
heard_turned t u since m =
    let other : (u.day == (u.day + 1)) ≡ false = ne_eqb u.day (u.day + 1) (λ e. omega (arith, e)) in
    let early : nat_le (86341 + (since + 1)) 0 ≡ false = lt-leb (86341 + (since + 1)) 0 (omega arith) in
    let none = and_none (is_month_end (u.day + 1)) (nat_le (86341 + (since + 1)) 0) (mark_by (leap_of t.leaps (u.day + 1))) early in
    rw other (sym none)

-- the mark m doesn't leave the guard closed at u
abbrev pub IsOpen : TableValue → UtcSecond → Mark → Type 0
IsOpen table u m = u.sod ≡ 86398 → is_month_end u.day ≡ true → m ≡ Unspoken → ¬ (table.until < u.day)

pub moved_true : (t : TimelineValue) (table : TableValue) (n : ℕ) (u v : UtcSecond) (since : ℕ) (m : Mark) → IsSecond t n u → IsSecond t (n + 1) v → (u.sod ≤ 86399 → m ≡ heard_at t u since)
    → IsOpen table u m → IsTrueHold t table (n + 1) (hold_after u since m v)
moved_true t table n u v since m a b heard free =
    elim (after t n u v a b) [
      | inl e ↦ subst (λ (w : UtcSecond). IsTrueHold t table (n + 1) (hold_after u since m w)) (sym e) (goes (subst (λ (w : UtcSecond). IsSecond t (n + 1) w) e b))
      | inr e ↦ subst (λ (w : UtcSecond). IsTrueHold t table (n + 1) (hold_after u since m w)) (sym e) (turns (subst (λ (w : UtcSecond). IsSecond t (n + 1) w) e b))
    ]
  where
    goes : IsSecond t (n + 1) (plain u) → IsTrueHold t table (n + 1) (hold_after u since m (plain u))
    goes c = record {
      at = c;
      heard = heard_plain t u since m (heard (omega (arith, c.sod, length_bounds (leap_of t.leaps u.day))));
      past_58 = λ late g.
          let kept : m ≡ Unspoken = rw (eq-eqb u.day u.day refl) at g.unheard in
          free (omega (arith, late)) g.end kept g.above;
    }

    turns : IsSecond t (n + 1) (turned u) → IsTrueHold t table (n + 1) (hold_after u since m (turned u))
    turns c = record { at = c; heard = heard_turned t u since m; past_58 = λ late g. omega (arith, late) }

-- ---- marks of true claims

pub true_mark_low : (t : TimelineValue) (u : UtcSecond) → u.sod ≤ 86399 → true_mark t.leaps u ≡ heard_at t u 0
true_mark_low t u low =
    elim (cases_Bool (is_month_end u.day)) [
      | inr mid ↦ rw mid refl
      | inl end ↦ elim (cases_lt u.sod 86341) [
        | inl early ↦ rw (end, lt-ltb u.sod 86341 early, lt-leb (86341 + 0) u.sod (omega arith)) refl
        | inr late ↦ rw (end, le-ltb u.sod 86341 late, lt-ltb u.sod 86400 (omega arith), le-leb (86341 + 0) u.sod (omega arith)) refl
      ]
    ]

-- the mark of a vote at u goes before what was heard earlier on that day, and is the same if
-- both are there
heard_by : (l : Option Leap) (a b c : Bool) → (c ≡ true → b ≡ true) → mark_or (cond (a && b) (mark_by l) Unspoken) (cond (a && c) (mark_by l) Unspoken) ≡ cond (a && b) (mark_by l) Unspoken
heard_by l false b c f = refl
heard_by l true true c f = mark_or-truth l (cond c (mark_by l) Unspoken)
heard_by l true false true f = absurd (false≢true (f refl))
heard_by l true false false f = refl

pub voted_mark : (t : TimelineValue) (u : UtcSecond) (since : ℕ) → mark_or (heard_at t u 0) (heard_at t u since) ≡ heard_at t u 0
voted_mark t u since =
    heard_by (leap_of t.leaps u.day) (is_month_end u.day) (nat_le (86341 + 0) u.sod) (nat_le (86341 + since) u.sod)
    (λ e. let far : 86341 + since ≤ u.sod = leb-true (86341 + since) u.sod e in le-leb (86341 + 0) u.sod (omega arith))

-- a mark of that second opens the guard
pub vote_opens : (t : TimelineValue) (table : TableValue) (u : UtcSecond) (m : Mark) → (u.sod ≤ 86399 → m ≡ heard_at t u 0) → IsOpen table u m
vote_opens t table u m heard at end none above =
    let late : nat_le (86341 + 0) u.sod ≡ true = le-leb (86341 + 0) u.sod (omega (arith, at)) in
    let spoken : heard_at t u 0 ≡ mark_by (leap_of t.leaps u.day) = rw (end, late) refl in
    truth_speaks (leap_of t.leaps u.day) (sym spoken ∙ sym (heard (omega (arith, at))) ∙ none)

-- the guard stops a hold after 57 seconds of the last minute without a vote, and not before
pub unheard_since : (t : TimelineValue) (u : UtcSecond) (since : ℕ) → is_month_end u.day ≡ true → heard_at t u since ≡ Unspoken → u.sod < 86341 + since
unheard_since t u since end none =
    elim (cases_Bool (nat_le (86341 + since) u.sod)) [
      | inl far ↦ let spoken : heard_at t u since ≡ mark_by (leap_of t.leaps u.day) = rw (end, far) refl in absurd (truth_speaks (leap_of t.leaps u.day) (sym spoken ∙ none))
      | inr near ↦ leb-false (86341 + since) u.sod near
    ]

pub unheard_by : (t : TimelineValue) (u : UtcSecond) (since : ℕ) → u.sod < 86341 + since → heard_at t u since ≡ Unspoken
unheard_by t u since near =
    and_none (is_month_end u.day) (nat_le (86341 + since) u.sod) (mark_by (leap_of t.leaps u.day)) (lt-leb (86341 + since) u.sod near)
