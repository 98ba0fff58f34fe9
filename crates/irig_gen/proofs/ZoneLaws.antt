-- The changes of a generator stand in order, and so the last that has come is found by a binary
-- search.
use Rattle.std.proofs.Common.{◌≡◌, ℕ, zero, suc, ◌+◌, ◌*◌, ◌%◌, ◌<◌, ◌≤◌, Bool, true, false, ◌||◌, leb, get_or, List, [], ◌∷◌, length, refl, arith, inl, inr}
use Rattle.std.specs.List.{list_any}
use Rattle.std.specs.List.Sorted.{IsNonDecreasingBy, IsPartitionPoint}
use Rattle.std.proofs.lemmas.List.Sorted.{IsNonDecreasingBy-from_all_adjacent}
use Rattle.std.proofs.lemmas.Bool.{cases_Bool, cases_lt, and_parts, leb-true, ltb-true, le-leb, lt-ltb, le-ltb, eq-eqb, eqb-true, ne_eqb}
use Rattle.irig_time.specs.declared.second.UtcSecond.{UtcSecond}
use Rattle.irig_time.specs.Seconds.{has_come, minute_number, minute_of}
use Rattle.irig_gen.specs.declared.zone.Zone.{Zone}
use Rattle.irig_gen.specs.declared.zone.Change.{Change}
use Rattle.irig_gen.specs.Zones.{in_order, is_change_time, zone_at}
use Rattle.irig_gen.specs.ControlBits.{ends_minute}

-- the minute of a second, which an inserted one shares
abbrev pub minute_at : UtcSecond → ℕ
minute_at u = u.day * 1440 + minute_of u

-- ---- the order

record IsFirst (before : ℕ) (x : Change) (xs : List Change) : Type 0 where
  time : is_change_time x.at ≡ true
  later : before < minute_number x.at
  rest : in_order (minute_number x.at) xs ≡ true

parts : (before : ℕ) (x : Change) (xs : List Change) → in_order before (x ∷ xs) ≡ true → IsFirst before x xs
parts before x xs h =
    let a = and_parts _ _ h in
    let b = and_parts _ _ a.1 in
    record { time = a.0; later = ltb-true _ _ b.0; rest = b.1 }

pub all_later : (before : ℕ) (xs : List Change) (k : ℕ) (d : Change) → in_order before xs ≡ true → k < length xs → before < minute_number (get_or xs k d).at
all_later before [] k d h lt = absurd (omega (arith, lt))
all_later before (x ∷ xs) zero d h lt = (parts before x xs h).later
all_later before (x ∷ xs) (suc k) d h lt =
    let p = parts before x xs h in
    omega (arith, p.later, all_later (minute_number x.at) xs k d p.rest (omega (arith, lt)))

rises : (before : ℕ) (xs : List Change) (k j : ℕ) (d : Change) → in_order before xs ≡ true → k < j → j < length xs → minute_number (get_or xs k d).at ≤ minute_number (get_or xs j d).at
rises before [] k j d h up lt = absurd (omega (arith, lt))
rises before (x ∷ xs) k zero d h up lt = absurd (omega (arith, up))
rises before (x ∷ xs) zero (suc j) d h up lt = omega (arith, all_later (minute_number x.at) xs j d (parts before x xs h).rest (omega (arith, lt)))
rises before (x ∷ xs) (suc k) (suc j) d h up lt = rises (minute_number x.at) xs k j d (parts before x xs h).rest (omega (arith, up)) (omega (arith, lt))

pub rising : (before : ℕ) (xs : List Change) → in_order before xs ≡ true → IsNonDecreasingBy (λ x. minute_number x.at) xs
rising before xs h = IsNonDecreasingBy-from_all_adjacent (λ x. minute_number x.at) xs (λ k d lt. rises before xs k (k + 1) d h (omega arith) lt)

-- ---- the zone

at_minute : (at : UtcSecond) → is_change_time at ≡ true → (at.sod < 86400) × (at.sod % 60 ≡ 0)
at_minute at h =
    let a = and_parts _ _ (and_parts _ _ h).1 in
    (ltb-true _ _ a.0, eqb-true _ _ a.1)

has_come_by : (at u : UtcSecond) → is_change_time at ≡ true → minute_number at ≤ minute_at u → has_come at u ≡ true
has_come_by at u h le =
    let whole = at_minute at h in
    elim (cases_lt at.day u.day) [
      | inl before ↦ rw (lt-ltb at.day u.day before) refl
      | inr ge ↦
          let same : at.day ≡ u.day = omega (arith, le, ge) in
          let sod : at.sod ≤ u.sod = omega (arith, le, same, whole.0, whole.1) in
          rw (le-ltb at.day u.day ge, eq-eqb at.day u.day same, le-leb at.sod u.sod sod) refl
    ]

not_come_by : (at u : UtcSecond) → is_change_time at ≡ true → minute_at u < minute_number at → has_come at u ≡ false
not_come_by at u h lt =
    let whole = at_minute at h in
    let ge : u.day ≤ at.day = omega (arith, lt, whole.0) in
    elim (cases_lt u.day at.day) [
      | inl after ↦ rw (le-ltb at.day u.day ge, ne_eqb at.day u.day (λ e. omega (arith, e, after))) refl
      | inr le ↦
          let same : at.day ≡ u.day = omega (arith, le, ge) in
          let sod : u.sod < at.sod = omega (arith, lt, same, whole.0) in
          rw (le-ltb at.day u.day ge, eq-eqb at.day u.day same, not_below at.sod u.sod sod) refl
    ]
  where
    not_below : (a b : ℕ) → b < a → leb a b ≡ false
    not_below a b below = elim (cases_Bool (leb a b)) [ inl e ↦ absurd (omega (arith, leb-true a b e, below)) | inr e ↦ e ]

-- the zone if so many changes have come
abbrev pub zone_after : Zone → List Change → ℕ → Change → Zone
zone_after zone xs zero d = zone
zone_after zone xs (suc k) d = (get_or xs k d).zone

pub zone_is : (before : ℕ) (zone : Zone) (xs : List Change) (u : UtcSecond) (come : ℕ) (d : Change) → in_order before xs ≡ true → come ≤ length xs
    → IsPartitionPoint (λ x. minute_number x.at ≤ minute_at u) (λ x. minute_at u < minute_number x.at) xs come → zone_at zone xs u ≡ zone_after zone xs come d
zone_is before zone [] u zero d h le point = refl
zone_is before zone [] u (suc k) d h le point = absurd (omega (arith, le))
zone_is before zone (x ∷ xs) u zero d h le point =
    let p = parts before x xs h in
    rw (not_come_by x.at u p.time (point.1 0 d (omega arith) (omega arith)))
    (zone_is (minute_number x.at) zone xs u zero d p.rest (omega arith) (λ k e low high. absurd (omega (arith, high)), λ k e low high. point.1 (suc k) e (omega arith) (omega (arith, high))))
zone_is before zone (x ∷ xs) u (suc zero) d h le point =
    let p = parts before x xs h in
    rw (has_come_by x.at u p.time (point.0 0 d (omega arith) (omega arith)))
    (zone_is (minute_number x.at) x.zone xs u zero d p.rest (omega arith) (λ k e low high. absurd (omega (arith, high)), λ k e low high. point.1 (suc k) e (omega arith) (omega (arith, high))))
zone_is before zone (x ∷ xs) u (suc (suc j)) d h le point =
    let p = parts before x xs h in
    rw (has_come_by x.at u p.time (point.0 0 d (omega arith) (omega arith)))
    (zone_is (minute_number x.at) x.zone xs u (suc j) d p.rest (omega (arith, le)) (λ k e low high. point.0 (suc k) e (omega arith) (omega (arith, high)), λ k e low high. point.1 (suc k) e (omega (arith, low)) (omega (arith, high))))

-- ---- the change that comes with the next minute

none_ends : (before : ℕ) (xs : List Change) (u : UtcSecond) → in_order before xs ≡ true → minute_at u < before → list_any (λ x. ends_minute u x.at) xs ≡ false
none_ends before [] u h lt = refl
none_ends before (x ∷ xs) u h lt =
    let p = parts before x xs h in
    rw (ne_eqb (minute_number x.at) (minute_at u + 1) (λ e. omega (arith, e, lt, p.later)), none_ends (minute_number x.at) xs u p.rest (omega (arith, lt, p.later))) refl

-- whether the change at this place ends the minute
abbrev pub next_ends : UtcSecond → List Change → ℕ → Bool
next_ends u [] k = false
next_ends u (x ∷ xs) zero = ends_minute u x.at
next_ends u (x ∷ xs) (suc k) = next_ends u xs k

pub any_is : (before : ℕ) (xs : List Change) (u : UtcSecond) (come : ℕ) (d : Change) → in_order before xs ≡ true → come ≤ length xs
    → IsPartitionPoint (λ x. minute_number x.at ≤ minute_at u) (λ x. minute_at u < minute_number x.at) xs come → list_any (λ x. ends_minute u x.at) xs ≡ next_ends u xs come
any_is before [] u come d h le point = refl
any_is before (x ∷ xs) u zero d h le point =
    let p = parts before x xs h in
    rw (none_ends (minute_number x.at) xs u p.rest (point.1 0 d (omega arith) (omega arith))) (or_false (ends_minute u x.at))
  where
    or_false : (b : Bool) → (b || false) ≡ b
    or_false true = refl
    or_false false = refl
any_is before (x ∷ xs) u (suc k) d h le point =
    let p = parts before x xs h in
    let past = point.0 0 d (omega arith) (omega arith) in
    rw (ne_eqb (minute_number x.at) (minute_at u + 1) (λ e. omega (arith, e, past)))
    (any_is (minute_number x.at) xs u k d p.rest (omega (arith, le)) (λ j e low high. point.0 (suc j) e (omega arith) (omega (arith, high)), λ j e low high. point.1 (suc j) e (omega (arith, low)) (omega (arith, high))))

pub next_is : (u : UtcSecond) (xs : List Change) (k : ℕ) (d : Change) → k < length xs → next_ends u xs k ≡ ends_minute u (get_or xs k d).at
next_is u [] k d lt = absurd (omega (arith, lt))
next_is u (x ∷ xs) zero d lt = refl
next_is u (x ∷ xs) (suc k) d lt = next_is u xs k d (omega (arith, lt))

pub none_next : (u : UtcSecond) (xs : List Change) (k : ℕ) → length xs ≤ k → next_ends u xs k ≡ false
none_next u [] k le = refl
none_next u (x ∷ xs) zero le = absurd (omega (arith, le))
none_next u (x ∷ xs) (suc k) le = none_next u xs k (omega (arith, le))
