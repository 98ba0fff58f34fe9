-- Numbers that are alike but for one add up to something else, by 64 bits.
use Rattle.std.proofs.Common.{◌≡◌, ℕ, suc, zero, ◌+◌, ◌-◌, ◌*◌, ◌/◌, ◌^◌, ◌<◌, ◌%◌, List, [], ◌∷◌, sym, ap, subst, ◌∙◌, arith, inl, inr}
use Rattle.std.proofs.lemmas.Bool.{cases_lt}
use Rattle.std.proofs.Math.Nat.{pow-succ', mul_assoc}
use Rattle.c_numbers.specs.declared.reader.IrigReader.{IrigReader}
use Rattle.c_numbers.specs.CheckWord.{check_of, numbers_of, weighted, AreOneApart, IsOneNumberApart, IsSealed}

-- ---- an odd weight keeps numbers apart

-- if an odd multiple is even, so is the number
half : (i d : ℕ) → ((2 * i + 1) * d) % 2 ≡ 0 → d % 2 ≡ 0
half i d even =
    let parts : (2 * i + 1) * d ≡ 2 * (i * d) + d = grind arith in
    omega (arith, even, parts)

twice : (k c : ℕ) → 2 ^ suc k * c ≡ 2 * (2 ^ k * c)
twice k c = ap (λ (x : ℕ). x * c) (pow-succ' 2 k) ∙ mul_assoc 2 (2 ^ k) c

-- 2^k divides the number if it divides an odd multiple
divides : (k i d c : ℕ) → (2 * i + 1) * d ≡ 2 ^ k * c → (e : ℕ) × (d ≡ 2 ^ k * e)
divides zero i d c is = (d, omega arith)
divides (suc k) i d c is =
    let whole : 2 ^ suc k * c ≡ 2 * (2 ^ k * c) = twice k c in
    let even : d % 2 ≡ 0 = half i d (omega (arith, is, whole)) in
    let h : ℕ = d / 2 in
    let two : d ≡ 2 * h = omega (arith, even) in
    let parts : (2 * i + 1) * d ≡ 2 * ((2 * i + 1) * h) = rw two (grind arith) in
    let rest = divides k i h c (omega (arith, is, whole, parts)) in
    let again : 2 ^ suc k * rest.0 ≡ 2 * (2 ^ k * rest.0) = twice k rest.0 in
    (rest.0, omega (arith, two, rest.1, again))

-- two odd multiples, one of a greater number
above : (i m d : ℕ) (rest : ℕ) → 0 < d → d < 18446744073709551616
    → ((2 * i + 1) * m + rest) % 18446744073709551616 ≡ ((2 * i + 1) * (m + d) + rest) % 18446744073709551616 → ⊥
above i m d rest some few same =
    let parts : (2 * i + 1) * (m + d) ≡ (2 * i + 1) * m + (2 * i + 1) * d = grind arith in
    let c : ℕ = (2 * i + 1) * d / 18446744073709551616 in
    let whole : (2 * i + 1) * d ≡ 18446744073709551616 * c = omega (arith, same, parts) in
    let found = divides 64 i d c whole in
    let is : d ≡ 18446744073709551616 * found.0 = found.1 in
    omega (arith, some, few, is)

odd_apart : (i m n rest : ℕ) → m < 18446744073709551616 → n < 18446744073709551616 → (m ≡ n → ⊥)
    → ((2 * i + 1) * m + rest) % 18446744073709551616 ≡ ((2 * i + 1) * n + rest) % 18446744073709551616 → ⊥
odd_apart i m n rest m_fits n_fits differ same =
    elim (cases_lt m n) [
      | inl less ↦
          let to : n ≡ m + (n - m) = omega (arith, less) in
          above i m (n - m) rest (omega (arith, less)) (omega (arith, n_fits))
          (same ∙ ap (λ (x : ℕ). ((2 * i + 1) * x + rest) % 18446744073709551616) to)
      | inr more ↦
          let to : m ≡ n + (m - n) = omega (arith, more) in
          above i n (m - n) rest (omega (arith, more, differ)) (omega (arith, m_fits))
          (sym same ∙ ap (λ (x : ℕ). ((2 * i + 1) * x + rest) % 18446744073709551616) to)
    ]

-- ---- so of lists

tail_same : (w m a b : ℕ) → (w * m + a) % 18446744073709551616 ≡ (w * m + b) % 18446744073709551616 → a % 18446744073709551616 ≡ b % 18446744073709551616
tail_same w m a b e = omega (arith, e)

pub apart_lists : (i : ℕ) (xs ys : List ℕ) → AreOneApart xs ys → weighted (2 * i + 1) xs % 18446744073709551616 ≡ weighted (2 * i + 1) ys % 18446744073709551616 → ⊥
apart_lists i [] ys h e = absurd h
apart_lists i (m ∷ ms) [] h e = absurd h
apart_lists i (m ∷ ms) (n ∷ ns) (inl h) e =
    let w : ℕ = 2 * i + 1 in
    let tails : weighted (w + 2) ns ≡ weighted (w + 2) ms = ap (λ (l : List ℕ). weighted (w + 2) l) (sym h.rest) in
    odd_apart i m n (weighted (w + 2) ms) h.one h.other h.differ (e ∙ ap (λ (x : ℕ). (w * n + x) % 18446744073709551616) tails)
apart_lists i (m ∷ ms) (n ∷ ns) (inr h) e =
    let w : ℕ = 2 * i + 1 in
    let next : w + 2 ≡ 2 * (i + 1) + 1 = omega arith in
    let head : (w * m + weighted (w + 2) ms) % 18446744073709551616 ≡ (w * m + weighted (w + 2) ns) % 18446744073709551616 =
    e ∙ ap (λ (x : ℕ). (w * x + weighted (w + 2) ns) % 18446744073709551616) (sym h.0) in
    apart_lists (i + 1) ms ns h.1
    (subst (λ (x : ℕ). weighted x ms % 18446744073709551616 ≡ weighted x ns % 18446744073709551616) next (tail_same w m (weighted (w + 2) ms) (weighted (w + 2) ns) head))

-- ---- so of readers

pub apart_told : (r q : IrigReader) → IsSealed r → IsOneNumberApart r q → ¬ IsSealed q
unfolding check_of
apart_told r q sealed (inl h) other =
    h.differ (sealed ∙ (ap (λ (l : List ℕ). weighted 3 l % 18446744073709551616) h.rest ∙ sym other))
apart_told r q sealed (inr h) other = apart_lists 1 (numbers_of r) (numbers_of q) h.1 (sym sealed ∙ (h.0 ∙ other))
