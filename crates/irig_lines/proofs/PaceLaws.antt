-- What votes teach of a counter holds on, and edges that are counted by it lie near their true ones.
use Rattle.std.specs.Prelude.{min}
use Rattle.std.proofs.Common.{◌≡◌, ℕ, zero, suc, ◌+◌, ◌*◌, ◌/◌, ◌<◌, ◌≤◌, Option, Some, None, refl, sym, true, arith, subst, inl, inr}
use Rattle.std.proofs.Math.Nat.{lt_of_mul-lt-mul_right, mul-le-mul_left, mul-le-mul_right, div-add-mod'}
use Rattle.std.proofs.lemmas.Bool.{cases_lt}
use Rattle.irig_lines.specs.declared.pace.Pace.{Pace}
use Rattle.irig_lines.specs.declared.rate.Rate.{Rate}
use Rattle.irig_lines.specs.Edges.{IsQuartz, IsNear}
use Rattle.irig_lines.specs.Paces.{IsFit, longest_us, shortest_us, IsOscillator, middle_of, spread_of, ahead_us, rest_on, grown_us, pace_on}
use Rattle.irig_lines.specs.Rates.{IsMeanFrom}
use Rattle.irig_lines.proofs.CountingLaws.{rises}

-- ---- the rate of a second, by the mean of those before it

-- from its beginning to its end the counter's oscillator comes so far
pub record IsSecondOf (ns : ℕ → ℕ) (second within i : ℕ) : Type 0 where
  pub least : ns i + second ≤ ns (i + 1) + within
  pub most : ns (i + 1) ≤ ns i + second + within

module _ (wander span : ℕ) (edges ns : ℕ → ℕ) (is : IsOscillator wander span edges ns) where
  -- n times that of a second is that of n others, but for the wander of each
  record AreAlike (i j n : ℕ) : Type 0 where
    pub most : n * ns (i + 1) + ns j ≤ n * ns i + ns (j + n) + n * wander
    pub least : n * ns i + ns (j + n) ≤ n * ns (i + 1) + ns j + n * wander

  alike : (i j n : ℕ) → i ≤ j + span → j + n ≤ i + span + 1 → AreAlike i j n
  alike i j zero near far =
      let same : j + 0 ≡ j = omega arith in
      record { most = rw same (omega arith); least = rw same (omega arith) }
  alike i j (suc n) near far =
      let before = alike i j n near (omega (arith, far)) in
      let next : j + suc n ≡ j + n + 1 = omega arith in
      let here = is.steady i (j + n) (omega (arith, near)) (omega (arith, far)) in
      let there = is.steady (j + n) i (omega (arith, far)) (omega (arith, near)) in
      record {
        most = rw next (omega (arith, before.most, here));
        least = rw next (omega (arith, before.least, there));
      }

  -- a second by the mean of those that began with another one, 1,000 or more
  pub by_mean : (d : ℕ) → IsQuartz d edges → (rate : Rate) (from i : ℕ) → IsMeanFrom edges from rate → 1000 ≤ rate.seconds → i ≤ from + span → from + rate.seconds ≤ i + span + 1 → IsSecondOf ns (middle_of rate) (spread_of wander rate) i
  by_mean d quartz rate from i mean long near far =
      let n = rate.seconds in
      let all = alike i from n near far in
      let up = rises d edges quartz from n in
      let most = lower n (ns i) (ns (i + 1)) (rate.most_ns + wander + 1) (omega (arith, all.most, mean.most, is.clock from, is.clock (from + rate.seconds), up, long)) in
      let least = lower n (ns (i + 1) + wander + 1) (ns i + rate.least_ns) 0 (omega (arith, all.least, mean.least, is.clock from, is.clock (from + rate.seconds), up, long)) in
      let between : rate.least_ns ≤ rate.most_ns = order n rate.least_ns rate.most_ns (omega (arith, long)) (omega (arith, mean.least, mean.most)) in
      record {
        least = omega (arith, least, between);
        most = omega (arith, most, between);
      }
    where
      lower : (n x y k : ℕ) → n * y < n * x + n * k → y < x + k
      lower n x y k less = lt_of_mul-lt-mul_right n (let product : y * n < (x + k) * n = omega (arith, less) in product)

      order : (n p q : ℕ) → 1 ≤ n → p * n ≤ q * n → p ≤ q
      order n p q some less = elim (cases_lt q p) [
        | inr low ↦ low
        | inl high ↦ (let more = mul-le-mul_right n (let h : q + 1 ≤ p = omega (arith, high) in h) in absurd (omega (arith, more, less, some)))
      ]

-- ---- an edge that is counted

-- the n-th edge after so many more, by seconds of such a length
record ArePassed (ns : ℕ → ℕ) (second within w n : ℕ) : Type 0 where
  pub least : ns w + n * second ≤ ns (w + n) + n * within
  pub most : ns (w + n) ≤ ns w + n * second + n * within

passed : (ns : ℕ → ℕ) (second within w n : ℕ) → ((i : ℕ) → w ≤ i → i < w + n → IsSecondOf ns second within i) → ArePassed ns second within w n
passed ns second within w zero each =
    let same : w + 0 ≡ w = omega arith in
    record { least = rw same (omega arith); most = rw same (omega arith) }
passed ns second within w (suc n) each =
    let before = passed ns second within w n (λ i low high. each i low (omega (arith, high))) in
    let next : w + suc n ≡ w + n + 1 = omega arith in
    let here = each (w + n) (omega arith) (omega arith) in
    record {
      least = rw next (omega (arith, before.least, here.least));
      most = rw next (omega (arith, before.most, here.most));
    }

-- a device's edge stands for T(w), a seconds behind a vote that lay at most so far off: by what it has
-- learned, in nanoseconds, and each second up to `reach` behind the vote is of that length
pub record IsPaced (edges : ℕ → ℕ) (reach d voted w a edge : ℕ) (p : Pace) : Type 0 where
  pub ns : ℕ → ℕ
  pub clock : (n : ℕ) → edges n ≡ ns n / 1000
  pub each : (i : ℕ) → w ≤ i → i + a < w + reach → IsSecondOf ns p.second_ns p.within_ns i
  pub least : ns w ≤ 1000 * edge + 1000 * voted + p.rest_ns + 999 + a * p.within_ns
  pub most : 1000 * edge + p.rest_ns ≤ ns w + 1000 * voted + a * p.within_ns
  pub fit : p.within_ns + 1000 ≤ 1000 * d
  pub rest : p.rest_ns ≤ 999

module _ (edges : ℕ → ℕ) (reach d voted w a edge : ℕ) (p : Pace) (is : IsPaced edges reach d voted w a edge p) where
  -- so many seconds later
  pub goes_on : (n : ℕ) → a + n ≤ reach → IsPaced edges reach d voted (w + n) (a + n) (edge + ahead_us (Some p) n) (rest_on n p)
  goes_on n far =
      let pass = passed is.ns p.second_ns p.within_ns w n (λ i low high. is.each i low (omega (arith, high, far))) in
      let split = div-add-mod' (p.rest_ns + n * p.second_ns) 1000 in
      record {
        ns = is.ns;
        clock = is.clock;
        each = λ i low high. is.each i (omega (arith, low)) (omega (arith, high));
        least = omega (arith, split, pass.most, is.least);
        most = omega (arith, split, pass.least, is.most);
        fit = is.fit;
        rest = omega arith;
      }

  -- more behind the vote
  pub later : (b : ℕ) → a ≤ b → IsPaced edges reach d voted w b edge p
  later b more =
      let grows = mul-le-mul_right p.within_ns more in
      record {
        ns = is.ns;
        clock = is.clock;
        each = λ i low high. is.each i low (omega (arith, high, more));
        least = omega (arith, is.least, grows);
        most = omega (arith, is.most, grows);
        fit = is.fit;
        rest = is.rest;
      }

  -- one or more behind it the edge lies no further off than what was learned allows
  pub near_learned : IsNear edges (voted + (a * p.within_ns + 1999) / 1000) (voted + (a * p.within_ns + 1999) / 1000) w edge
  near_learned = record {
    least = omega (arith, is.clock w, is.least, is.rest);
    most = omega (arith, is.clock w, is.most);
  }

  -- nor than the drift
  less : 1 ≤ a → (a * p.within_ns + 1999) / 1000 ≤ a * d
  less some =
      let product = mul-le-mul_left a is.fit in
      omega (arith, product, some)

  pub near_drift : 1 ≤ a → IsNear edges (voted + a * d) (voted + a * d) w edge
  near_drift some =
      let l = less some in
      let near = near_learned in
      record { least = omega (arith, near.least, l); most = omega (arith, near.most, l) }

  pub near_grown : 1 ≤ a → (k : ℕ) → a ≤ k → IsNear edges (voted + grown_us d (Some p) k) (voted + grown_us d (Some p) k) w edge
  near_grown some k more = by (k * d) ((k * p.within_ns + 1999) / 1000) (omega (arith, less some, mul-le-mul_right d more)) (omega (arith, mul-le-mul_right p.within_ns more))
    where
      by : (x y : ℕ) → (a * p.within_ns + 1999) / 1000 ≤ x → (a * p.within_ns + 1999) / 1000 ≤ y → IsNear edges (voted + min x y) (voted + min x y) w edge
      by x y one other =
          let near = near_learned in
          elim (cases_lt x y) [
            | inl low ↦ let is : min x y ≡ x = grind (arith, low) in rw is (record { least = omega (arith, near.least, one); most = omega (arith, near.most, one) })
            | inr high ↦ let is : min x y ≡ y = grind (arith, high) in rw is (record { least = omega (arith, near.least, other); most = omega (arith, near.most, other) })
          ]

  -- where it has just come to, too, but for 1 us of what is not whole
  pub near_still : (k : ℕ) → a ≤ k → IsNear edges (voted + (grown_us d (Some p) k + 1)) (voted + (grown_us d (Some p) k + 1)) w edge
  near_still k more = elim (cases_lt 0 a) [
    | inl some ↦ let near = near_grown some k more in record { least = omega (arith, near.least); most = omega (arith, near.most) }
    | inr none ↦ let near = near_learned in let nothing = mul-le-mul_right p.within_ns (let zero : a ≤ 0 = omega (arith, none) in zero) in record { least = omega (arith, near.least, nothing); most = omega (arith, near.most, nothing) }
  ]

min_left : (x y : ℕ) → min x y ≤ x
min_left x y = elim (cases_lt x y) [ inl low ↦ let is : min x y ≡ x = grind (arith, low) in omega (arith, is) | inr high ↦ let is : min x y ≡ y = grind (arith, high) in omega (arith, is, high) ]

min_right : (x y : ℕ) → min x y ≤ y
min_right x y = elim (cases_lt x y) [ inl low ↦ let is : min x y ≡ x = grind (arith, low) in omega (arith, is, low) | inr high ↦ let is : min x y ≡ y = grind (arith, high) in omega (arith, is) ]

less_of : (x y x' y' : ℕ) → x ≤ y → x' ≤ y' → min x x' ≤ min y y'
less_of x y x' y' low other = elim (cases_lt y y') [
  | inl less ↦ let is : min y y' ≡ y = grind (arith, less) in let most = min_left x x' in omega (arith, is, most, low)
  | inr more ↦ let is : min y y' ≡ y' = grind (arith, more) in let most = min_right x x' in omega (arith, is, most, other)
]

-- what comes of so many seconds is no more than the drift, and nothing of none
pub grown_most : (d : ℕ) (pace : Option Pace) (k : ℕ) → grown_us d pace k ≤ k * d
grown_most d None k = omega arith
grown_most d (Some p) k = min_left (k * d) ((k * p.within_ns + 1999) / 1000)

-- it is no less of more seconds
pub grown_more : (d : ℕ) (pace : Option Pace) (k j : ℕ) → k ≤ j → grown_us d pace k ≤ grown_us d pace j
grown_more d None k j more = mul-le-mul_right d more
grown_more d (Some p) k j more = less_of (k * d) (j * d) ((k * p.within_ns + 1999) / 1000) ((j * p.within_ns + 1999) / 1000) (mul-le-mul_right d more) (let grows = mul-le-mul_right p.within_ns more in omega (arith, grows))

-- and each second more costs no more than the drift
pub grown_on : (d : ℕ) (pace : Option Pace) (k n : ℕ) → grown_us d pace (k + n) ≤ grown_us d pace k + n * d
grown_on d None k n = omega arith
grown_on d (Some p) k n = elim (cases_lt p.within_ns (1000 * d)) [
  | inl less ↦
      let more = mul-le-mul_left n (let l : p.within_ns ≤ 1000 * d = omega (arith, less) in l) in
      least_of ((k + n) * d) (k * d) (((k + n) * p.within_ns + 1999) / 1000) ((k * p.within_ns + 1999) / 1000) (n * d) (omega arith) (omega (arith, more))
  | inr not_less ↦
      let more = mul-le-mul_left k not_less in
      by_drift ((k + n) * d) (k * d) (((k + n) * p.within_ns + 1999) / 1000) ((k * p.within_ns + 1999) / 1000) (n * d) (omega arith) (omega (arith, more))
]
  where
    by_drift : (x y x' y' z : ℕ) → x ≤ y + z → y ≤ y' → min x x' ≤ min y y' + z
    by_drift x y x' y' z low is_less =
        let left : min y y' ≡ y = grind (arith, is_less) in
        let most : min x x' ≤ x = min_left x x' in
        omega (arith, left, most, low)

    least_of : (x y x' y' z : ℕ) → x ≤ y + z → x' ≤ y' + z → min x x' ≤ min y y' + z
    least_of x y x' y' z low other = elim (cases_lt y y') [
      | inl less ↦ by_drift x y x' y' z low (omega (arith, less))
      | inr more ↦
          let right : min y y' ≡ y' = grind (arith, more) in
          let most : min x x' ≤ x' = min_right x x' in
          omega (arith, right, most, other)
    ]

-- what remains below a microsecond changes nothing
pub rest_grown : (d n : ℕ) (pace : Option Pace) (k : ℕ) → grown_us d (pace_on true n pace) k ≡ grown_us d pace k
rest_grown d n None k = refl
rest_grown d n (Some p) k = refl

pub none_grown : (d : ℕ) (pace : Option Pace) → grown_us d pace 0 ≡ 0
none_grown d pace = let most = grown_most d pace 0 in omega (arith, most)

-- of one second the time passes by it that lies between the least and the most
pub record IsSpan (p : Pace) (before after : ℕ) : Type 0 where
  pub least : before + shortest_us p ≤ after
  pub most : after ≤ before + longest_us p

pub spans : (edges : ℕ → ℕ) (reach d voted w a edge : ℕ) (p : Pace) → IsPaced edges reach d voted w a edge p → IsFit p → d ≤ 100 → a < reach → IsSpan p (edges w) (edges (w + 1))
spans edges reach d voted w a edge p is fit slow far =
    let second = is.each w (omega arith) (omega (arith, far)) in
    record {
      least = omega (arith, is.clock w, is.clock (w + 1), second.least, fit.least, is.fit, slow);
      most = omega (arith, is.clock w, is.clock (w + 1), second.most);
    }

-- ---- behind a vote

-- by what was measured from an anchor up to it
pub begins_paced : (wander span : ℕ) (edges ns : ℕ → ℕ) → IsOscillator wander span edges ns → (d : ℕ) → IsQuartz d edges → (rate : Rate) (from reach voted w edge : ℕ) → IsMeanFrom edges from rate → from + rate.seconds ≡ w → 1000 ≤ rate.seconds → reach + rate.seconds ≤ span → IsNear edges voted voted w edge
    → (p : Pace) → p ≡ (record { second_ns = middle_of rate; within_ns = spread_of wander rate; rest_ns = 0 }) → p.within_ns + 1000 ≤ 1000 * d → IsPaced edges reach d voted w 0 edge p
begins_paced wander span edges ns is d quartz rate from reach voted w edge mean since long far near p same fit =
    let whole : IsPaced edges reach d voted w 0 edge (record { second_ns = middle_of rate; within_ns = spread_of wander rate; rest_ns = 0 }) = record {
      ns = ns;
      clock = is.clock;
      each = λ i low high. by_mean wander span edges ns is d quartz rate from i mean long (omega (arith, low, high, since, far)) (omega (arith, low, since));
      least = omega (arith, is.clock w, near.least);
      most = omega (arith, is.clock w, near.most);
      fit = subst (λ (q : Pace). q.within_ns + 1000 ≤ 1000 * d) same fit;
      rest = omega arith;
    } in
    subst (IsPaced edges reach d voted w 0 edge) (sym same) whole
