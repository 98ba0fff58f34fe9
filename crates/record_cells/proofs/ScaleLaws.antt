-- Powers of 10, a place at a time.
use Rattle.std.proofs.Common.{◌≡◌, ℕ, suc, zero, ◌+◌, ◌-◌, ◌*◌, ◌/◌, ◌^◌, ◌<◌, ◌≤◌, None, Some, ap, sym, ◌∙◌, arith, mul_assoc, le_trans}
use Rattle.std.specs.Prelude.{if◌then◌else◌}
use Rattle.std.proofs.Math.Nat.{pow-succ', div-div-eq-div-mul, le-mul_of_pos_right}
use Rattle.std.proofs.lemmas.Bool.{le-ltb}
use Rattle.record_cells.specs.Scales.{below}

-- one place more is a factor of 10 more
ten-more : (power place : ℕ) → place < power → 10 ^ (power - place) ≡ 10 * 10 ^ (power - (place + 1))
ten-more power place h =
    let e : power - place ≡ suc (power - (place + 1)) = omega (arith, h) in
    ap (λ k. 10 ^ k) e ∙ pow-succ' 10 (power - (place + 1))

pub raise-step : (n power place : ℕ) → place < power → n * 10 * 10 ^ (power - (place + 1)) ≡ n * 10 ^ (power - place)
raise-step n power place h =
    mul_assoc n 10 (10 ^ (power - (place + 1))) ∙ ap (λ m. n * m) (sym (ten-more power place h))

pub lower-step : (n power place : ℕ) → place < power → n / 10 / 10 ^ (power - (place + 1)) ≡ n / 10 ^ (power - place)
lower-step n power place h =
    div-div-eq-div-mul n 10 (10 ^ (power - (place + 1))) ∙ ap (λ m. n / m) (sym (ten-more power place h))

ten-pos : (k : ℕ) → 0 < 10 ^ k
ten-pos zero = omega arith
ten-pos (suc k) = let e = pow-succ' 10 k in omega (arith, e, ten-pos k)

-- what lies beyond the end stays there
pub is-beyond : (end n k : ℕ) → end ≤ n → below end (n * 10 ^ k) ≡ None
is-beyond end n k h =
    ap (λ b. if b then Some (n * 10 ^ k) else None) (le-ltb (n * 10 ^ k) end (le_trans h (le-mul_of_pos_right n (ten-pos k))))
