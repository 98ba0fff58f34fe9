-- What is measured of a counter is so, and how sharp it is.
use Rattle.std.specs.Prelude.{min}
use Rattle.std.proofs.Common.{◌≡◌, ℕ, ◌+◌, ◌-◌, ◌*◌, ◌/◌, ◌%◌, ◌^◌, ◌<◌, ◌≤◌, arith, inl, inr}
use Rattle.std.specs.Int.{div_ceil}
use Rattle.std.proofs.Math.Nat.{div-mul-le_self, lt-div-mul-add, lt_of_mul-lt-mul_right, mul-le-mul_left, mul-le-mul_right}
use Rattle.std.proofs.lemmas.Bool.{cases_lt}
use Rattle.std.proofs.lemmas.Grind.{div_ceil_times}
use Rattle.irig_sync.specs.Sync.{clock_gap}
use Rattle.irig_lines.specs.declared.interval.Interval.{Interval}
use Rattle.irig_lines.specs.declared.rate.Anchor.{Anchor}
use Rattle.irig_lines.specs.Edges.{IsQuartz}
use Rattle.irig_lines.specs.Rates.{at_most_u32, least_us, most_us, mean_since, IsMeanFrom}
use Rattle.irig_lines.proofs.CountingLaws.{apart, rises}

-- ---- rounding

low_min : (p q : ℕ) → min p q ≤ p
low_min p q = elim (cases_lt p q) [
  | inl less ↦ let is : min p q ≡ p = grind (arith, less) in omega (arith, is)
  | inr more ↦ let is : min p q ≡ q = grind (arith, more) in omega (arith, is, more)
]

-- rounded down
down : (D l n : ℕ) → l ≤ D → at_most_u32 (1000 * l / n) * n ≤ 1000 * D
down D l n less =
    let few = mul-le-mul_right n (low_min (1000 * l / n) (2 ^ 32 - 1)) in
    omega (arith, few, div-mul-le_self (1000 * l) n, less)

-- rounded up, of a mean that has place in 32 bits
up : (D m n : ℕ) → 1 ≤ n → D ≤ m → D ≤ n * 1000100 → 1000 * D ≤ at_most_u32 (div_ceil (1000 * m) n) * n
up D m n some less few = elim (cases_lt (div_ceil (1000 * m) n) (2 ^ 32 - 1)) [
  | inl low ↦
      let is : at_most_u32 (div_ceil (1000 * m) n) ≡ div_ceil (1000 * m) n = grind (arith, low) in
      rw is (omega (arith, (div_ceil_times (1000 * m) n some).0, less))
  | inr high ↦
      let is : at_most_u32 (div_ceil (1000 * m) n) ≡ 2 ^ 32 - 1 = grind (arith, high) in
      rw is (omega (arith, few))
]

-- ---- between the intervals

-- T(i) lies in the anchor's interval, and T(i + n) in the other one
pub record AreRound (edges : ℕ → ℕ) (i n : ℕ) (a : Anchor) (x : Interval) (begin later : ℕ) : Type 0 where
  pub clock : a.begin_us ≡ begin % 2 ^ 32
  pub least : begin ≤ edges i
  pub most : edges i ≤ begin + a.long_us
  pub short : a.long_us ≤ 980000
  pub clock_later : x.begin_us ≡ later % 2 ^ 32
  pub least_later : later ≤ edges (i + n)
  pub most_later : edges (i + n) ≤ later + x.long_us
  pub short_later : x.long_us ≤ 980000

pub mean_is : (d : ℕ) (edges : ℕ → ℕ) → IsQuartz d edges → (i : ℕ) (a : Anchor) (x : Interval) (begin later : ℕ) → AreRound edges i a.seconds a x begin later → 1 ≤ a.seconds → a.seconds ≤ 2000 → IsMeanFrom edges i (mean_since a x)
mean_is d edges quartz i a x begin later h some few =
    let n = a.seconds in
    let far = apart d edges quartz i n in
    let slow = mul-le-mul_left n (let steady : d ≤ 100 = omega (arith, quartz.few) in steady) in
    let gap = of a.begin_us x.begin_us h.clock h.clock_later (omega (arith, h.least, h.most_later, h.short_later, rises d edges quartz i n, some)) (omega (arith, h.most, h.short, h.least_later, far.most, slow, few)) in
    record {
      least = down (edges (i + n) - edges i) (least_us a x) n (rw gap (omega (arith, h.most, h.least_later)));
      most = up (edges (i + n) - edges i) (most_us a x) n some (rw gap (omega (arith, h.least, h.most_later))) (omega (arith, far.most, slow));
    }
  where
    of : (e f : ℕ) → e ≡ begin % 2 ^ 32 → f ≡ later % 2 ^ 32 → begin ≤ later → later < begin + 2 ^ 32 → clock_gap e f ≡ later - begin
    of e f p q order near = omega (arith, p, q, order, near)

-- ---- how sharp it is

-- the least and the most of them differ by the lengths of both intervals over the seconds between, but for
-- 2 ns by rounding
pub mean_is_sharp : (a : Anchor) (x : Interval) → 1 ≤ a.seconds → (mean_since a x).most_ns ≤ (mean_since a x).least_ns + 1000 * (a.long_us + x.long_us) / a.seconds + 2
mean_is_sharp a x some = within (1000 * least_us a x) (1000 * (a.long_us + x.long_us)) (1000 * most_us a x) a.seconds some (omega arith)
  where
    rounds : (P Q A n c p q : ℕ) → A ≤ P + Q → c * n < A + n → P < p * n + n → Q < q * n + n → c ≤ p + q + 2
    rounds P Q A n c p q sum high low less =
        let product : c * n < (p + q + 3) * n = omega (arith, sum, high, low, less) in
        let few = lt_of_mul-lt-mul_right n product in
        omega (arith, few)

    clips : (p q r : ℕ) → p ≤ q + r → at_most_u32 p ≤ at_most_u32 q + r
    clips p q r less = elim (cases_lt q (2 ^ 32 - 1)) [
      | inl low ↦ let is : at_most_u32 q ≡ q = grind (arith, low) in rw is (omega (arith, low_min p (2 ^ 32 - 1), less))
      | inr high ↦ let is : at_most_u32 q ≡ 2 ^ 32 - 1 = grind (arith, high) in rw is (omega (arith, top p))
    ]
      where
        top : (p : ℕ) → at_most_u32 p ≤ 2 ^ 32 - 1
        top p = grind arith

    within : (P Q A n : ℕ) → 1 ≤ n → A ≤ P + Q → at_most_u32 (div_ceil A n) ≤ at_most_u32 (P / n) + Q / n + 2
    within P Q A n some sum =
        let few = rounds P Q A n (div_ceil A n) (P / n) (Q / n) sum (div_ceil_times A n some).1 (lt-div-mul-add some) (lt-div-mul-add some) in
        let least = clips (div_ceil A n) (P / n) (Q / n + 2) (omega (arith, few)) in
        omega (arith, least)
