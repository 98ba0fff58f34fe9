-- The second after a second: that it is valid, what the mark counts for, and where there is none.
use Rattle.std.proofs.Common.{◌≡◌, ℕ, ◌+◌, ◌<◌, ◌≤◌, ◌⊎◌, true, Option, Some, None, refl, sym, ap, subst, ◌∙◌, arith, inl, inr}
use Rattle.std.proofs.lemmas.Bool.{cases_Bool, cases_lt, cases_eq, lt-ltb, le-ltb, eq-eqb, ne_eqb}
use Rattle.irig_time.proofs.MonthEnds.{month_end_from_test}
use Rattle.irig_time.specs.declared.second.UtcSecond.{UtcSecond}
use Rattle.irig_time.specs.declared.mark.Mark.{Mark}
use Rattle.irig_time.specs.declared.mark.Mark.TheVariants.{Unspoken, NoLeap, Insert, Delete}
use Rattle.irig_time.specs.Days.{is_month_end}
use Rattle.irig_time.specs.Seconds.{IsValid}
use Rattle.irig_time.specs.Next.{plain, next_day, next_day_after, next_at_month_end, next_of}

abbrev some : UtcSecond → Option UtcSecond
some u = Some u

-- ---- validity

turn_valid : (u v : UtcSecond) → IsValid u → next_day u ≡ Some v → IsValid v
turn_valid u v h e =
    elim (cases_eq u.day 36523) [
      | inl last ↦ let none : None ≡ some v = rw (eq-eqb u.day 36523 last) at e in cc
      | inr other ↦
          let next : UtcSecond = record { day = u.day + 1; sod = 0 } in
          let moved : some next ≡ Some v = rw (ne_eqb u.day 36523 other) at e in
          let same : next ≡ v = cc in
          let own : IsValid next = record { day = (omega (arith, h.day), omega (arith, h.day, other)); sod = inl (omega arith) } in
          subst IsValid same own
    ]

plain_valid : (u v : UtcSecond) → IsValid u → (u.sod + 1 ≤ 86399) ⊎ ((u.sod + 1 ≤ 86400) × (is_month_end u.day ≡ true)) → some (plain u) ≡ Some v → IsValid v
plain_valid u v h low e =
    let same : plain u ≡ v = cc in
    let own : IsValid (plain u) = record {
      day = h.day;
      sod = elim low [
        | inl lt ↦ inl lt
        | inr end ↦ elim (cases_lt (u.sod + 1) 86400) [
          | inl lt ↦ inl (omega arith)
          | inr ge ↦ inr (omega (arith, ge, end.0), month_end_from_test u.day end.1)
        ]
      ];
    } in
    subst IsValid same own

after_valid : (last : ℕ) (u v : UtcSecond) → IsValid u → (last ≤ 86399) ⊎ ((last ≤ 86400) × (is_month_end u.day ≡ true)) → next_day_after last u ≡ Some v → IsValid v
after_valid last u v h low e =
    elim (cases_lt u.sod last) [
      | inl lt ↦
          let goes : some (plain u) ≡ Some v = rw (lt-ltb u.sod last lt) at e in
          let room : (u.sod + 1 ≤ 86399) ⊎ ((u.sod + 1 ≤ 86400) × (is_month_end u.day ≡ true)) = elim low [ inl a ↦ inl (omega arith) | inr b ↦ inr (omega (arith, b.0), b.1) ] in
          plain_valid u v h room goes
      | inr ge ↦ let turns : next_day u ≡ Some v = rw (le-ltb u.sod last ge) at e in turn_valid u v h turns
    ]

month_end_valid : (u v : UtcSecond) (mark : Mark) → IsValid u → is_month_end u.day ≡ true → next_at_month_end u mark ≡ Some v → IsValid v
month_end_valid u v Unspoken h end e =
    elim (cases_lt u.sod 86398) [
      | inl lt ↦
          let goes : some (plain u) ≡ Some v = rw (lt-ltb u.sod 86398 lt) at e in
          plain_valid u v h (inl (omega arith)) goes
      | inr ge ↦ elim (cases_lt u.sod 86400) [
        | inl lt ↦ let none : None ≡ some v = rw (le-ltb u.sod 86398 ge, lt-ltb u.sod 86400 lt) at e in cc
        | inr late ↦ let turns : next_day u ≡ Some v = rw (le-ltb u.sod 86398 ge, le-ltb u.sod 86400 late) at e in turn_valid u v h turns
      ]
    ]
month_end_valid u v NoLeap h end e = after_valid 86399 u v h (inl (omega arith)) e
month_end_valid u v Insert h end e = after_valid 86400 u v h (inr (omega arith, end)) e
month_end_valid u v Delete h end e = after_valid 86398 u v h (inl (omega arith)) e

-- the second after a valid one is valid
pub next_valid : (u v : UtcSecond) (mark : Mark) → IsValid u → next_of u mark ≡ Some v → IsValid v
next_valid u v mark h e =
    elim (cases_Bool (is_month_end u.day)) [
      | inl end ↦ let at_end : next_at_month_end u mark ≡ Some v = rw end at e in month_end_valid u v mark h end at_end
      | inr mid ↦ let turns : next_day_after 86399 u ≡ Some v = rw mid at e in after_valid 86399 u v h (inl (omega arith)) turns
    ]

-- ---- what the mark counts for

early : (u : UtcSecond) (mark : Mark) → u.sod < 86398 → next_at_month_end u mark ≡ Some (plain u)
early u Unspoken h = rw (lt-ltb u.sod 86398 h) refl
early u NoLeap h = rw (lt-ltb u.sod 86399 (omega arith)) refl
early u Insert h = rw (lt-ltb u.sod 86400 (omega arith)) refl
early u Delete h = rw (lt-ltb u.sod 86398 h) refl

-- before the last seconds of a day it counts for nothing
pub next_early : (u : UtcSecond) (mark : Mark) → u.sod < 86398 → next_of u mark ≡ Some (plain u)
next_early u mark h =
    elim (cases_Bool (is_month_end u.day)) [
      | inl end ↦ rw end (early u mark h)
      | inr mid ↦ rw (mid, lt-ltb u.sod 86399 (omega arith)) refl
    ]

late : (u : UtcSecond) (mark : Mark) → 86400 ≤ u.sod → next_at_month_end u mark ≡ next_day u
late u Unspoken h = rw (le-ltb u.sod 86398 (omega arith), le-ltb u.sod 86400 h) refl
late u NoLeap h = rw (le-ltb u.sod 86399 (omega arith)) refl
late u Insert h = rw (le-ltb u.sod 86400 h) refl
late u Delete h = rw (le-ltb u.sod 86398 (omega arith)) refl

-- 23:59:58 or 23:59:59 of a month's last day
pub record IsLast (u : UtcSecond) : Type 0 where
  pub end : is_month_end u.day ≡ true
  pub late : (u.sod ≡ 86398) ⊎ (u.sod ≡ 86399)

-- but there the mark counts for nothing
pub free_or_last : (u : UtcSecond) → ((mark other : Mark) → next_of u mark ≡ next_of u other) ⊎ IsLast u
free_or_last u =
    elim (cases_Bool (is_month_end u.day)) [
      | inr mid ↦ inl (λ mark other. rw mid refl)
      | inl end ↦ elim (cases_lt u.sod 86398) [
        | inl lt ↦ inl (λ mark other. rw end (early u mark lt ∙ sym (early u other lt)))
        | inr ge ↦ elim (cases_lt u.sod 86400) [
          | inr ge' ↦ inl (λ mark other. rw end (late u mark ge' ∙ sym (late u other ge')))
          | inl lt ↦ inr (record {
            end = end;
            late = elim (cases_eq u.sod 86398) [ inl a ↦ inl a | inr b ↦ inr (omega (arith, b)) ];
          })
        ]
      ]
    ]

-- ---- where there is none

turn_none : (u : UtcSecond) → next_day u ≡ None → u.day ≡ 36523
turn_none u e =
    elim (cases_eq u.day 36523) [
      | inl last ↦ last
      | inr other ↦ let goes : some (record { day = u.day + 1; sod = 0 }) ≡ None = rw (ne_eqb u.day 36523 other) at e in cc
    ]

after_none : (last : ℕ) (u : UtcSecond) → next_day_after last u ≡ None → u.day ≡ 36523
after_none last u e =
    elim (cases_lt u.sod last) [
      | inl lt ↦ let goes : some (plain u) ≡ None = rw (lt-ltb u.sod last lt) at e in cc
      | inr ge ↦ let turns : next_day u ≡ None = rw (le-ltb u.sod last ge) at e in turn_none u turns
    ]

month_end_none : (u : UtcSecond) (mark : Mark) → is_month_end u.day ≡ true → next_at_month_end u mark ≡ None → (u.day ≡ 36523) ⊎ (IsLast u × (mark ≡ Unspoken))
month_end_none u Unspoken end e =
    elim (cases_lt u.sod 86398) [
      | inl lt ↦ let goes : some (plain u) ≡ None = rw (lt-ltb u.sod 86398 lt) at e in cc
      | inr ge ↦ elim (cases_lt u.sod 86400) [
        | inl lt ↦ inr (record { end = end; late = elim (cases_eq u.sod 86398) [ inl a ↦ inl a | inr b ↦ inr (omega (arith, b)) ] }, refl)
        | inr ge' ↦ let turns : next_day u ≡ None = rw (le-ltb u.sod 86398 ge, le-ltb u.sod 86400 ge') at e in inl (turn_none u turns)
      ]
    ]
month_end_none u NoLeap end e = inl (after_none 86399 u e)
month_end_none u Insert end e = inl (after_none 86400 u e)
month_end_none u Delete end e = inl (after_none 86398 u e)

-- there is none on the last day, or if nothing is said at the end of a month
pub next_none : (u : UtcSecond) (mark : Mark) → next_of u mark ≡ None → (u.day ≡ 36523) ⊎ (IsLast u × (mark ≡ Unspoken))
next_none u mark e =
    elim (cases_Bool (is_month_end u.day)) [
      | inl end ↦ let at_end : next_at_month_end u mark ≡ None = rw end at e in month_end_none u mark end at_end
      | inr mid ↦ let turns : next_day_after 86399 u ≡ None = rw mid at e in inl (after_none 86399 u turns)
    ]

-- the same the other way round
pub last_waits : (u : UtcSecond) → IsLast u → next_of u Unspoken ≡ None
last_waits u h =
    elim h.late [
      | inl a ↦ rw (h.end, le-ltb u.sod 86398 (omega (arith, a)), lt-ltb u.sod 86400 (omega (arith, a))) refl
      | inr b ↦ rw (h.end, le-ltb u.sod 86398 (omega (arith, b)), lt-ltb u.sod 86400 (omega (arith, b))) refl
    ]

-- ---- the same day, or the next

-- one second on in the same day, which a second from 86400 on never is, or the next day's first
abbrev pub Follows : UtcSecond → UtcSecond → Type 0
Follows u v = ((v.day ≡ u.day) × (v.sod ≡ u.sod + 1) × (u.sod < 86400)) ⊎ ((v.day ≡ u.day + 1) × (v.sod ≡ 0))

goes_plain : (u v : UtcSecond) → u.sod < 86400 → some (plain u) ≡ Some v → Follows u v
goes_plain u v low e =
    let same : plain u ≡ v = cc in
    inl (sym (ap (λ (x : UtcSecond). x.day) same), sym (ap (λ (x : UtcSecond). x.sod) same), low)

goes_turned : (u v : UtcSecond) → next_day u ≡ Some v → Follows u v
goes_turned u v e =
    elim (cases_eq u.day 36523) [
      | inl last ↦ let none : None ≡ some v = rw (eq-eqb u.day 36523 last) at e in absurd cc
      | inr other ↦
          let next : UtcSecond = record { day = u.day + 1; sod = 0 } in
          let moved : some next ≡ Some v = rw (ne_eqb u.day 36523 other) at e in
          let same : next ≡ v = cc in
          inr (sym (ap (λ (x : UtcSecond). x.day) same), sym (ap (λ (x : UtcSecond). x.sod) same))
    ]

goes_after : (last : ℕ) (u v : UtcSecond) → last ≤ 86400 → next_day_after last u ≡ Some v → Follows u v
goes_after last u v most e =
    elim (cases_lt u.sod last) [
      | inl lt ↦ goes_plain u v (omega (arith, lt, most)) (rw (lt-ltb u.sod last lt) at e)
      | inr ge ↦ goes_turned u v (rw (le-ltb u.sod last ge) at e)
    ]

goes_at_end : (u v : UtcSecond) (mark : Mark) → next_at_month_end u mark ≡ Some v → Follows u v
goes_at_end u v Unspoken e =
    elim (cases_lt u.sod 86398) [
      | inl lt ↦ goes_plain u v (omega (arith, lt)) (rw (lt-ltb u.sod 86398 lt) at e)
      | inr ge ↦ elim (cases_lt u.sod 86400) [
        | inl lt ↦ let none : None ≡ some v = rw (le-ltb u.sod 86398 ge, lt-ltb u.sod 86400 lt) at e in absurd cc
        | inr late ↦ goes_turned u v (rw (le-ltb u.sod 86398 ge, le-ltb u.sod 86400 late) at e)
      ]
    ]
goes_at_end u v NoLeap e = goes_after 86399 u v (omega arith) e
goes_at_end u v Insert e = goes_after 86400 u v (omega arith) e
goes_at_end u v Delete e = goes_after 86398 u v (omega arith) e

pub next_follows : (u v : UtcSecond) (mark : Mark) → next_of u mark ≡ Some v → Follows u v
next_follows u v mark e =
    elim (cases_Bool (is_month_end u.day)) [
      | inl end ↦ goes_at_end u v mark (rw end at e)
      | inr other ↦ goes_after 86399 u v (omega arith) (rw other at e)
    ]
