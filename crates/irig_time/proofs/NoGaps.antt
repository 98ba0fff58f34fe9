-- A timeline has no gaps: before each of its seconds but the first comes another.
use Rattle.std.proofs.Common.{◌≡◌, ℕ, zero, suc, ◌+◌, ◌-◌, subst, sym, ap, ◌∙◌, arith, inl, inr}
use Rattle.std.proofs.lemmas.Bool.{cases_lt}
use Rattle.irig_time.specs.declared.second.UtcSecond.{UtcSecond}
use Rattle.irig_time.specs.Timelines.{TimelineValue, leap_of, day_length, seconds_in, IsSecond}
use Rattle.irig_time.proofs.TimeLaws.{length_bounds, seconds_to_next}

pub second_before : (t : TimelineValue) (n : ℕ) (v : UtcSecond) → IsSecond t (n + 1) v → (u : UtcSecond) × IsSecond t n u
second_before t n v b =
    elim (cases_lt 0 v.sod) [
      | inl later ↦ (record { day = v.day; sod = v.sod - 1 }, record { from = b.from; to = b.to; sod = omega (arith, b.sod); sum = omega (arith, later, b.sum) })
      | inr first ↦ elim (cases_lt t.start.day v.day) [
        | inl after ↦
            let here : v.day - 1 + 1 ≡ v.day = omega arith in
            let sums : seconds_in t.leaps t.start.day (v.day - t.start.day) ≡ seconds_in t.leaps t.start.day (v.day - 1 - t.start.day) + day_length t.leaps (v.day - 1) =
            ap (λ (d : ℕ). seconds_in t.leaps t.start.day (d - t.start.day)) (sym here) ∙ seconds_to_next t.leaps t.start.day (v.day - 1) (omega arith) in
            let long = length_bounds (leap_of t.leaps (v.day - 1)) in (
              record { day = v.day - 1; sod = day_length t.leaps (v.day - 1) - 1 },
              record { from = omega arith; to = omega (arith, b.to); sod = omega (arith, long); sum = omega (arith, long, first, sums, b.sum) },
            )
        | inr same ↦
            let none : v.day - t.start.day ≡ 0 = omega (arith, same) in
            let sums : seconds_in t.leaps t.start.day (v.day - t.start.day) ≡ 0 = ap (seconds_in t.leaps t.start.day) none in
            absurd (omega (arith, first, sums, b.sum))
      ]
    ]

-- and before that
pub seconds_before : (t : TimelineValue) (k n : ℕ) (v : UtcSecond) → IsSecond t (k + n) v → (u : UtcSecond) × IsSecond t k u
seconds_before t k zero v h = let same : k + 0 ≡ k = omega arith in (v, subst (λ (m : ℕ). IsSecond t m v) same h)
seconds_before t k (suc n) v h =
    let next : k + suc n ≡ k + n + 1 = omega arith in
    let before = second_before t (k + n) v (subst (λ (m : ℕ). IsSecond t m v) next h) in
    seconds_before t k n before.0 before.1
