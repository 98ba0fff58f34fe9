-- The lengths of days of which one may end with a leap.
use Rattle.std.proofs.Common.{◌≡◌, ℕ, zero, suc, ◌+◌, ◌-◌, ◌*◌, ◌<◌, ◌≤◌, Bool, if◌then◌else◌, List, [], ◌∷◌, Some, None, refl, ap, ◌∙◌, arith, inl, inr, pos, ◌-ℤ◌}
use Rattle.std.proofs.lemmas.Bool.{cases_eq, eq-eqb, ne_eqb}
use Rattle.irig_time.specs.declared.leap.Leap.{Leap}
use Rattle.irig_time.specs.declared.second.UtcSecond.{UtcSecond}
use Rattle.irig_time.specs.Timelines.{IsSecond, TimelineValue, day_length, length_by, seconds_in}
use Rattle.std.proofs.lemmas.Int.{ints}
use Rattle.record_stamp.specs.declared.late.Moment.{Moment}
use Rattle.record_stamp.specs.Late.{late_ns, seconds_to}

-- no day ends with one
pub plain_days : (n : ℕ) → seconds_in [] 0 n ≡ 86400 * n
plain_days zero = refl
plain_days (suc n) = omega (arith, plain_days n)

other_day : (leap : Leap) (day n : ℕ) → ¬ (day ≡ n) → day_length ((day, leap) ∷ []) (0 + n) ≡ 86400
other_day leap day n apart =
    let same_n : 0 + n ≡ n = omega arith in
    ap (day_length ((day, leap) ∷ [])) same_n ∙ ap (λ (same : Bool). length_by (if same then Some leap else None)) (ne_eqb day n apart)

its_day : (leap : Leap) (day n : ℕ) → day ≡ n → day_length ((day, leap) ∷ []) (0 + n) ≡ length_by (Some leap)
its_day leap day n same =
    let same_n : 0 + n ≡ n = omega arith in
    ap (day_length ((day, leap) ∷ [])) same_n ∙ ap (λ (same : Bool). length_by (if same then Some leap else None)) (eq-eqb day n same)

-- those up to the one that does
pub days_before : (leap : Leap) (day n : ℕ) → n ≤ day → seconds_in ((day, leap) ∷ []) 0 n ≡ 86400 * n
days_before leap day zero h = refl
days_before leap day (suc n) h =
    omega (arith, h, days_before leap day n (omega (arith, h)), other_day leap day n (λ same. omega (arith, h, same)))

-- and from there on
pub days_after : (leap : Leap) (day n : ℕ) → day < n → seconds_in ((day, leap) ∷ []) 0 n + 86400 ≡ 86400 * n + length_by (Some leap)
days_after leap day zero h = absurd (omega (arith, h))
days_after leap day (suc n) h = elim (cases_eq day n) [
  | inl same ↦ omega (arith, same, days_before leap day n (omega (arith, same)), its_day leap day n same)
  | inr apart ↦ omega (arith, h, days_after leap day n (omega (arith, h, apart)), other_day leap day n apart)
]

-- ---- on a timeline

split : (leaps : List (ℕ × Leap)) (a b n : ℕ) → n ≡ a + b → seconds_in leaps 0 n ≡ seconds_in leaps 0 a + seconds_in leaps a b
split leaps a zero n e =
    let same : n ≡ a = omega (arith, e) in
    omega (arith, ap (seconds_in leaps 0) same)
split leaps a (suc b) zero e = absurd (omega (arith, e))
split leaps a (suc b) (suc n) e =
    let before : n ≡ a + b = omega (arith, e) in
    let same : 0 + n ≡ a + b = omega (arith, e) in
    omega (arith, split leaps a b n before, ap (day_length leaps) same)

-- where a second of a timeline begins
place_of : (t : TimelineValue) (n : ℕ) (u : UtcSecond) → IsSecond t n u → seconds_to t.leaps u ≡ seconds_to t.leaps t.start + n
place_of t n u h =
    let day : u.day ≡ t.start.day + (u.day - t.start.day) = omega (arith, h.from) in
    omega (arith, h.sum, split t.leaps t.start.day (u.day - t.start.day) u.day day)

pub elapsed : (t : TimelineValue) (told truth : Moment) (m n : ℕ) → IsSecond t m told.at → IsSecond t n truth.at
    → late_ns t.leaps told truth ≡ pos (1000000000 * m + told.nanoseconds) -ℤ pos (1000000000 * n + truth.nanoseconds)
elapsed t told truth m n h k =
    between (seconds_to t.leaps t.start) (seconds_to t.leaps told.at) (seconds_to t.leaps truth.at) m n told.nanoseconds truth.nanoseconds
    (place_of t m told.at h) (place_of t n truth.at k)
  where
    between : (start a b m n x y : ℕ) → a ≡ start + m → b ≡ start + n
        → pos (1000000000 * a + x) -ℤ pos (1000000000 * b + y) ≡ pos (1000000000 * m + x) -ℤ pos (1000000000 * n + y)
    between start a b m n x y e f = omega (arith, ints, e, f)
