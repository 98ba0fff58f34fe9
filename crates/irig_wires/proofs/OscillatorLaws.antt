-- What an oscillator counts, in parts and asked back.
use Rattle.std.proofs.Common.{◌≡◌, ℕ, ◌+◌, ◌-◌, ◌*◌, ◌/◌, ◌%◌, ◌^◌, ◌<◌, ◌≤◌, ◌↔◌, sym, ◌∙◌, ap, arith, inl, inr}
use Rattle.std.specs.Prelude.{ℤ, pos, int_lt, unsigned_abs}
use Rattle.std.proofs.lemmas.Bool.{cases_Bool}
use Rattle.std.proofs.Math.Nat.{add-mul-div_right, div-lt_iff_lt-mul, le-div_iff_mul-le, mul-div_left, div-mul-le_self, mul-le-mul_right}
use Rattle.std.proofs.lemmas.Nat.{div-add-mod'}
use Rattle.irig_wires.specs.Oscillator.{counter_at, edges_by, rate_of, time_of}

-- whole times z and a rest, each by a rate, are counted one by one
parts : (q rest rate z : ℕ) → 0 < z → q * rate + rest * rate / z ≡ (q * z + rest) * rate / z
parts q rest rate z some =
    let e : (q * z + rest) * rate ≡ rest * rate + q * rate * z = omega arith in
    let divided : (rest * rate + q * rate * z) / z ≡ rest * rate / z + q * rate = add-mul-div_right (rest * rate) (q * rate) some in
    rw e (omega (arith, divided))

-- what a counter counts in a time that gains so much in each second
pub counted_faster : (time by : ℕ) → time + time * by / 1000000 ≡ time * (1000000 + by) / 1000000
counted_faster time by =
    let all : time * (1000000 + by) ≡ time * 1000000 + time * by = grind arith in
    omega (arith, all)

-- or that loses so much
pub counted_slower : (time by rate : ℕ) → rate + by ≡ 1000000 → time - (time * by + 999999) / 1000000 ≡ time * rate / 1000000
counted_slower time by rate is =
    let all : time * rate + time * by ≡ time * (rate + by) = grind arith in
    let whole : time * (rate + by) ≡ time * 1000000 = ap (λ n. time * n) is in
    omega (arith, all, whole)

-- a counter that gains no more than a thousandth stays small for as long as a scenario can last
pub counted_few : (time rate : ℕ) → time < 2 ^ 60 → rate ≤ 1001000 → time * rate / 1000000 < 2 ^ 61 - 2 ^ 55
counted_few time rate short slow =
    let most : time * rate ≤ time * 1001000 = omega (arith, mul-le-mul_right time slow) in
    (div-lt_iff_lt-mul (omega arith)).1 (omega arith)

-- and it counts no more than twice the time
pub counted_upto : (time rate : ℕ) → rate ≤ 1001000 → time * rate / 1000000 ≤ 2 * time
counted_upto time rate slow =
    let most : time * rate ≤ time * 1001000 = omega (arith, mul-le-mul_right time slow) in
    let some : 0 < 1000000 = omega arith in
    let less : time * rate / 1000000 < 2 * time + 1 = (div-lt_iff_lt-mul some).1 (omega arith) in
    omega arith

-- a quotient rounded up is at most t where t times what divides is enough
pub rounded_up : (x rate t : ℕ) → 0 < rate → ((x + (rate - 1)) / rate ≤ t) ↔ (x ≤ t * rate)
rounded_up x rate t some =
    let low : (t + 1) * rate ≡ t * rate + rate = omega arith in (
      λ h. let less : x + (rate - 1) < (t + 1) * rate = (div-lt_iff_lt-mul some).0 (omega arith) in omega arith,
      λ h. let less : (x + (rate - 1)) / rate < t + 1 = (div-lt_iff_lt-mul some).1 (omega arith) in omega arith,
    )

-- the counter shows a count at a time exactly if that is not before the first such time
pub first_time : (first rate count t : ℕ) → 0 < rate → (count ≤ counter_at first rate t) ↔ (time_of first rate count ≤ t)
first_time first rate count t some =
    let up = rounded_up ((count - first) * 1000000) rate t some in (
      λ h. let low : count - first ≤ t * rate / 1000000 = omega arith in
          up.1 ((le-div_iff_mul-le (omega arith)).0 low),
      λ h. let low : count - first ≤ t * rate / 1000000 = (le-div_iff_mul-le (omega arith)).1 (up.0 h) in omega arith,
    )

-- the first time in whole seconds of the counter and the rest of one is that of all
pub time_by_parts : (m rate : ℕ) → 0 < rate → m / rate * 1000000 + (m % rate * 1000000 + (rate - 1)) / rate ≡ (m * 1000000 + (rate - 1)) / rate
time_by_parts m rate some =
    let e : (m / rate * rate + m % rate) * 1000000 + (rate - 1) ≡ m % rate * 1000000 + (rate - 1) + m / rate * 1000000 * rate = omega arith in
    let whole : m * 1000000 + (rate - 1) ≡ m % rate * 1000000 + (rate - 1) + m / rate * 1000000 * rate = ap (λ n. n * 1000000 + (rate - 1)) (sym (div-add-mod' m rate)) ∙ e in
    let divided = add-mul-div_right (m % rate * 1000000 + (rate - 1)) (m / rate * 1000000) some in
    rw whole (omega (arith, divided))

-- the same for a rate that is found, and a count ahead that is
pub value_by_parts : (first rate r count m : ℕ) → r ≡ rate → m ≡ count - first → 0 < r → m / r * 1000000 + (m % r * 1000000 + (r - 1)) / r ≡ time_of first rate count
value_by_parts first rate r count m same ahead some =
    time_by_parts m r some ∙ ap (λ n. (n * 1000000 + (r - 1)) / r) ahead ∙ ap (λ n. time_of first n count) same

pub first_by_parts : (first rate r count m : ℕ) → r ≡ rate → m ≡ count - first → 0 < r → (t : ℕ) → (count ≤ counter_at first rate t) ↔ (m / r * 1000000 + (m % r * 1000000 + (r - 1)) / r ≤ t)
first_by_parts first rate r count m same ahead some t =
    let value = value_by_parts first rate r count m same ahead some in
    let positive : 0 < rate = omega arith in
    let first_is = first_time first rate count t positive in
    (λ h. let it = first_is.0 h in omega arith, λ h. let low : time_of first rate count ≤ t = omega arith in first_is.1 low)

-- ---- laws

-- what gains or loses at most d in a second counts at most d more or less
pub rate_near : (gain : ℤ) (d : ℕ) → unsigned_abs gain ≤ d → (1000000 ≤ rate_of gain + d) × (rate_of gain ≤ 1000000 + d)
rate_near gain d few = elim (cases_Bool (int_lt gain (pos 0))) [
  | inl below ↦ rw below (omega arith, omega arith)
  | inr above ↦ rw above (omega arith, omega arith)
]

-- a counter does not go back
pub monotone : (first rate s t : ℕ) → s ≤ t → counter_at first rate s ≤ counter_at first rate t
monotone first rate s t before =
    let more : s * rate ≤ t * rate = mul-le-mul_right rate before in
    let down : s * rate / 1000000 * 1000000 ≤ s * rate = div-mul-le_self (s * rate) 1000000 in
    let some : 0 < 1000000 = omega arith in
    let least : s * rate / 1000000 * 1000000 ≤ t * rate = omega arith in
    let up : s * rate / 1000000 ≤ t * rate / 1000000 = (le-div_iff_mul-le some).1 least in
    omega arith

-- at edges nothing is rounded
pub at_edges : (first rate n : ℕ) → edges_by first rate n ≡ counter_at first rate (n * 1000000)
at_edges first rate n =
    let e : n * 1000000 * rate ≡ n * rate * 1000000 = omega arith in
    let whole : n * rate * 1000000 / 1000000 ≡ n * rate = mul-div_left (n * rate) (omega arith) in
    rw e (omega (arith, whole))

-- a second later it shows its rate more
pub a_second_later : (first rate t : ℕ) → counter_at first rate (t + 1000000) ≡ counter_at first rate t + rate
a_second_later first rate t =
    let e : (t + 1000000) * rate ≡ t * rate + rate * 1000000 = omega arith in
    let whole : (t * rate + rate * 1000000) / 1000000 ≡ t * rate / 1000000 + rate = add-mul-div_right (t * rate) rate (omega arith) in
    rw e (omega (arith, whole))

-- two quotients and that of the sum
sum_apart : (x y : ℕ) → (x / 1000000 + y / 1000000 ≤ (x + y) / 1000000) × ((x + y) / 1000000 ≤ x / 1000000 + y / 1000000 + 1)
sum_apart x y =
    let low : (x / 1000000 + y / 1000000) * 1000000 ≤ x + y = omega arith in
    let high : x + y < (x / 1000000 + y / 1000000 + 2) * 1000000 = omega arith in
    let some : 0 < 1000000 = omega arith in
    let less : (x + y) / 1000000 < x / 1000000 + y / 1000000 + 2 = (div-lt_iff_lt-mul some).1 high in
    ((le-div_iff_mul-le some).1 low, omega arith)

-- over any time it counts what it counts from its first on in that time, but for one
pub over_a_time : (first rate t d : ℕ) → (counter_at first rate t + d * rate / 1000000 ≤ counter_at first rate (t + d)) × (counter_at first rate (t + d) ≤ counter_at first rate t + d * rate / 1000000 + 1)
over_a_time first rate t d =
    let e : (t + d) * rate ≡ t * rate + d * rate = omega arith in
    let apart = sum_apart (t * rate) (d * rate) in
    (rw e (omega arith), rw e (omega arith))
