-- How far apart the elements of a line lie by a counter that drifts, and that no loss slips.
use Rattle.std.proofs.Common.{◌↔◌, ◌^◌, ◌≡◌, ℕ, zero, suc, ◌+◌, ◌-◌, ◌*◌, ◌/◌, ◌%◌, ◌<◌, ◌≤◌, true, subst, arith, inl, inr}
use Rattle.std.proofs.lemmas.Bool.{cases_lt}
use Rattle.irig_sync.specs.Edges.{IsSteady, second_long, element_at, element_drift, IsClock}
use Rattle.irig_sync.specs.Sync.{is_on_time, clock_gap}
use Rattle.irig_sync.specs.Lines.{IsTimeOf}
use Rattle.irig_sync.proofs.LineLaws.{on_time_is, gap_is}

-- ---- elements

-- a hundredth more of a second that is d longer or shorter at most
hundredth : (d long i : ℕ) → 1000000 ≤ long + d → long ≤ 1000000 + d → (long * i / 100 + 10000 ≤ long * suc i / 100 + element_drift d) × (long * suc i / 100 ≤ long * i / 100 + 10000 + element_drift d)
hundredth d long i least most =
    let more : long * suc i ≡ long * i + long = omega arith in
    rw more (omega (arith, least, most), omega (arith, least, most))

-- an element lies 10 ms behind the one before, but for its part of the drift
element_step : (d : ℕ) (edges : ℕ → ℕ) → IsSteady d edges → d ≤ 1000000 → (k : ℕ) → (element_at edges k + 10000 ≤ element_at edges (suc k) + element_drift d) × (element_at edges (suc k) ≤ element_at edges k + 10000 + element_drift d)
element_step d edges steady small k = elim (cases_lt (k % 100) 99) [
  | inl inside ↦
      let frame : suc k / 100 ≡ k / 100 = omega (arith, inside) in
      let place : suc k % 100 ≡ suc (k % 100) = omega (arith, inside) in
      let more = hundredth d (second_long edges (k / 100)) (k % 100) (omega (arith, steady.least (k / 100))) (omega (arith, steady.most (k / 100))) in
      rw (frame, place) (omega (arith, more.0), omega (arith, more.1))
  | inr last ↦
      let frame : suc k / 100 ≡ k / 100 + 1 = omega (arith, last) in
      let place : suc k % 100 ≡ 0 = omega (arith, last) in
      let end : k % 100 ≡ 99 = omega (arith, last) in
      rw (frame, place, end) (omega (arith, small, steady.least (k / 100), steady.most (k / 100)), omega (arith, small, steady.least (k / 100), steady.most (k / 100)))
]

pub element_least : (d : ℕ) (edges : ℕ → ℕ) → IsSteady d edges → d ≤ 1000000 → (k : ℕ) → element_at edges k + 10000 ≤ element_at edges (suc k) + element_drift d
element_least d edges steady small k = (element_step d edges steady small k).0

pub element_most : (d : ℕ) (edges : ℕ → ℕ) → IsSteady d edges → d ≤ 1000000 → (k : ℕ) → element_at edges (suc k) ≤ element_at edges k + 10000 + element_drift d
element_most d edges steady small k = (element_step d edges steady small k).1

-- by a counter of which each second is as long as the others
pub even_element : (long : ℕ) (edges : ℕ → ℕ) → ((n : ℕ) → edges (n + 1) ≡ edges n + long) → (k : ℕ) → element_at edges k ≡ edges (k / 100) + long * (k % 100) / 100
even_element long edges even k =
    let is : second_long edges (k / 100) ≡ long = omega (arith, even (k / 100)) in
    rw is (omega arith)

-- ---- pulses, by the times of their elements

-- of these numbers: of two elements' times and of the rises near them
near_next : (c off a b before time : ℕ) → 2 * off + c ≤ 1001 → a + 10000 ≤ b + c → b ≤ a + 10000 + c → (a < before + off) × (before < a + off) → (b < time + off) × (time < b + off)
    → (before + 9000 ≤ time) × (time < before + 11000)
near_next c off a b before time near least most p q = (omega (arith, near, least, p.1, q.0), omega (arith, near, most, p.0, q.1))

near_far : (c off a b before time : ℕ) → 2 * off + c ≤ 1001 → a + 17998 ≤ b → (a < before + off) × (before < a + off) → (b < time + off) × (time < b + off) → before + 11000 ≤ time
near_far c off a b before time near far p q = omega (arith, near, far, p.1, q.0)

near_two : (c off a b before time : ℕ) → 2 * off + c ≤ 1001 → b ≤ a + 20000 + 2 * c → (a < before + off) × (before < a + off) → (b < time + off) × (time < b + off) → time < before + 22000
near_two c off a b before time near most p q = omega (arith, near, most, p.0, q.1)

module _ (d off : ℕ) (edges : ℕ → ℕ) (clock : IsClock d off edges) where
  pub small : d ≤ 1000000
  small = omega (arith, clock.near)

  -- elements lie 8.999 ms or more apart
  next_element : (k : ℕ) → element_at edges k + 8999 ≤ element_at edges (suc k)
  next_element k = omega (arith, element_least d edges clock.steady small k, clock.near)

  later_element : (k n : ℕ) → element_at edges k + 8999 * n ≤ element_at edges (k + n)
  later_element k zero = let same : k + 0 ≡ k = omega arith in rw same (omega arith)
  later_element k (suc n) =
      let more : k + suc n ≡ suc (k + n) = omega arith in
      rw more (omega (arith, later_element k n, next_element (k + n)))

  -- neighbours are on time
  pub next_apart : (k before time : ℕ) → IsTimeOf edges off k before → IsTimeOf edges off (suc k) time → (before + 9000 ≤ time) × (time < before + 11000)
  next_apart k before time p q =
      near_next (element_drift d) off (element_at edges k) (element_at edges (suc k)) before time clock.near (element_least d edges clock.steady small k) (element_most d edges clock.steady small k) p q

  -- any further apart are not
  pub far_apart : (j k before time : ℕ) → IsTimeOf edges off j before → IsTimeOf edges off k time → suc j < k → before + 11000 ≤ time
  far_apart j k before time p q less =
      let there : j + (k - j) ≡ k = omega (arith, less) in
      let far : element_at edges j + 8999 * (k - j) ≤ element_at edges k = subst (λ (i : ℕ). element_at edges j + 8999 * (k - j) ≤ element_at edges i) there (later_element j (k - j)) in
      near_far (element_drift d) off (element_at edges j) (element_at edges k) before time clock.near (omega (arith, far, less)) p q

  -- two apart they leave no room for two pulses between, each on time
  pub two_apart : (k before time : ℕ) → IsTimeOf edges off k before → IsTimeOf edges off (suc (suc k)) time → time < before + 22000
  two_apart k before time p q =
      near_two (element_drift d) off (element_at edges k) (element_at edges (suc (suc k))) before time clock.near
      (omega (arith, element_most d edges clock.steady small k, element_most d edges clock.steady small (suc k))) p q

  -- ---- no slip

  -- on time behind another one comes the next element alone
  pub is_next : (j k before time : ℕ) → IsTimeOf edges off j before → IsTimeOf edges off k time → j < k → is_on_time (time - before) ≡ true → k ≡ suc j
  is_next j k before time p q less on = elim (cases_lt (suc j) k) [
    | inl further ↦
        let gap = (on_time_is (time - before)).0 on in
        absurd (omega (arith, far_apart j k before time p q further, gap.1))
    | inr here ↦ omega (arith, here, less)
  ]

  pub is_later : (j k before time : ℕ) → IsTimeOf edges off j before → IsTimeOf edges off k time → j < k → before + 9000 ≤ time
  is_later j k before time p q less = elim (cases_lt (suc j) k) [
    | inl further ↦ omega (arith, far_apart j k before time p q further)
    | inr here ↦
        let next : k ≡ suc j = omega (arith, here, less) in
        (next_apart j before time p (subst (λ (i : ℕ). IsTimeOf edges off i time) next q)).0
  ]

pub slips_not : (edges : ℕ → ℕ) (off d j k before time : ℕ) → IsClock d off edges → IsTimeOf edges off j before → IsTimeOf edges off k time → j < k → time - before < 2 ^ 32
    → (is_on_time (clock_gap (before % 2 ^ 32) (time % 2 ^ 32)) ≡ true) ↔ (k ≡ j + 1)
slips_not edges off d j k before time clock p q less short =
    let order : before + 9000 ≤ time = is_later d off edges clock j k before time p q less in
    let same : clock_gap (before % 2 ^ 32) (time % 2 ^ 32) ≡ time - before = gap_is before time (omega (arith, order)) (omega (arith, order, short)) in
    rw same (
      λ on. (let next : k ≡ suc j = is_next d off edges clock j k before time p q less on in omega (arith, next)),
      λ e. (let next : k ≡ suc j = omega (arith, e) in let gap = next_apart d off edges clock j before time p (subst (λ (i : ℕ). IsTimeOf edges off i time) next q) in (on_time_is (time - before)).1 (omega (arith, gap.0), omega (arith, gap.0, gap.1))),
    )
