-- What a device counts from its last edge, by its clock of 32 bits.
use Rattle.std.specs.Prelude.{nat_lt}
use Rattle.std.proofs.Common.{◌≡◌, ◌∙◌, ℕ, ◌+◌, ◌-◌, ◌*◌, ◌/◌, ◌%◌, ◌^◌, ◌<◌, ◌≤◌, true, false, Option, Some, None, refl, ap, arith, inl, inr}
use Rattle.std.proofs.Math.Nat.{div-mul-le_self, lt-div-mul-add, mul-le-mul_left}
use Rattle.std.proofs.lemmas.Bool.{cases_lt}
use Rattle.irig_sync.specs.Sync.{clock_gap}
use Rattle.irig_lines.specs.declared.pace.Pace.{Pace}
use Rattle.irig_lines.specs.Counting.{counted_in, edges_between, edges_to, edges_own}
use Rattle.irig_lines.specs.Paces.{IsFit, IsSound, ahead_us, edge_on}
use Rattle.irig_timekeeper.specs.Truth.{IsEdgeAt}
use Rattle.irig_lines.proofs.CountingLaws.{wraps}

-- the edges that have come by the own counter
abbrev pub own_come : Option Pace → ℕ → ℕ → ℕ
own_come pace edge now = counted_in pace (now - edge)

-- none has come less than 1.006 s behind the last one
none_yet : (pace : Option Pace) (gap : ℕ) → counted_in pace gap ≡ 0 → gap < 1006000
none_yet None gap none = omega (arith, none)
none_yet (Some p) gap none = elim (cases_lt gap 1006000) [
  | inl low ↦ low
  | inr high ↦
      let test : nat_lt gap 1006000 ≡ false = grind (arith, high) in
      let one : 1 + (1000 * (gap - 1006000) + 999) / p.second_ns ≡ 0 = rw test at none in
      absurd (omega (arith, one))
]

-- so long
pub none_before : (pace : Option Pace) (gap : ℕ) → gap < 1006000 → counted_in pace gap ≡ 0
none_before None gap low = omega (arith, low)
none_before (Some p) gap low = let test : nat_lt gap 1006000 ≡ true = grind (arith, low) in rw test refl

-- from then on one has
pub one_at : (pace : Option Pace) (gap : ℕ) → 1006000 ≤ gap → 1 ≤ counted_in pace gap
one_at None gap high = omega (arith, high)
one_at (Some p) gap high =
    let test : nat_lt gap 1006000 ≡ false = grind (arith, high) in
    rw test (omega arith)

-- an edge lies so far behind the last one that is counted then
record IsPassed (gap ahead : ℕ) : Type 0 where
  come : ahead ≤ gap
  soon : gap < ahead + 1006000

passes : (pace : Option Pace) → IsSound pace → (gap n : ℕ) → n ≡ counted_in pace gap → 1 ≤ n → IsPassed gap (ahead_us pace n)
passes None sound gap n same some = record { come = omega (arith, same, some); soon = omega (arith, same, some) }
passes (Some p) sound gap n same some = elim (cases_lt gap 1006000) [
  | inl low ↦
      let test : nat_lt gap 1006000 ≡ true = grind (arith, low) in
      let none : n ≡ 0 = rw test at same in
      absurd (omega (arith, none, some))
  | inr high ↦
      let test : nat_lt gap 1006000 ≡ false = grind (arith, high) in
      let so_many : n ≡ 1 + (1000 * (gap - 1006000) + 999) / p.second_ns = rw test at same in
      by n ((1000 * (gap - 1006000) + 999) / p.second_ns) so_many
      (div-mul-le_self (1000 * (gap - 1006000) + 999) p.second_ns) (lt-div-mul-add (let is = sound p refl in omega (arith, is.least))) high (sound p refl)
]
  where
    by : (n q : ℕ) → n ≡ 1 + q → q * p.second_ns ≤ 1000 * (gap - 1006000) + 999 → 1000 * (gap - 1006000) + 999 < q * p.second_ns + p.second_ns → 1006000 ≤ gap → IsFit p → IsPassed gap ((p.rest_ns + n * p.second_ns) / 1000)
    by n q is low high far fit =
        let product : n * p.second_ns ≡ (1 + q) * p.second_ns = ap (λ (x : ℕ). x * p.second_ns) is in
        record {
          come = omega (arith, product, low, far, fit.most, fit.rest);
          soon = omega (arith, product, high, far);
        }

-- so many seconds last so long
pub record LastsSo (n ahead : ℕ) : Type 0 where
  pub least : n * 999900 ≤ ahead
  pub most : ahead ≤ n * 1000100

pub lasts_so : (pace : Option Pace) → IsSound pace → (n : ℕ) → LastsSo n (ahead_us pace n)
lasts_so None sound n = record { least = omega arith; most = omega arith }
lasts_so (Some p) sound n =
    let fit = sound p refl in
    let least = mul-le-mul_left n fit.least in
    let most = mul-le-mul_left n fit.most in
    record { least = omega (arith, least); most = omega (arith, most, fit.rest) }

module _ (tick now : ℕ) (order : tick ≤ now) (soon : now ≤ tick + 1800000000) (e edge : ℕ) (at : IsEdgeAt e edge tick) where
  pub own_count : (pace : Option Pace) → edges_own pace (Some e) (now % 2 ^ 32) ≡ own_come pace edge now
  own_count pace =
      let gap : clock_gap e (now % 2 ^ 32) ≡ now - edge = ap (λ (x : ℕ). clock_gap x (now % 2 ^ 32)) at.clock ∙ gap_is edge now (omega (arith, at.come, order)) (omega (arith, at.soon, soon)) in
      let low : nat_lt (now - edge) (2 ^ 31) ≡ true = low_is (now - edge) (omega (arith, at.soon, soon)) in
      rw (gap, low) refl
    where
      gap_is : (u v : ℕ) → u ≤ v → v < u + 2 ^ 32 → clock_gap (u % 2 ^ 32) (v % 2 ^ 32) ≡ v - u
      gap_is u v h k = omega arith

      low_is : (g : ℕ) → g < 2 ^ 31 → nat_lt g (2 ^ 31) ≡ true
      low_is g h = grind (arith, h)

  pub still_edge : (pace : Option Pace) → own_come pace edge now ≡ 0 → IsEdgeAt e edge now
  still_edge pace none = record { clock = at.clock; come = omega (arith, at.come, order); soon = omega (arith, none_yet pace (now - edge) none) }

  -- the next edge by the own counter
  pub own_edge_at : (pace : Option Pace) → IsSound pace → (n : ℕ) → n ≡ own_come pace edge now → 1 ≤ n → IsEdgeAt (edge_on pace e n) (edge + ahead_us pace n) now
  own_edge_at pace sound n same some =
      let pass = passes pace sound (now - edge) n same some in
      record {
        clock = wrapped e edge (ahead_us pace n) at.clock;
        come = omega (arith, pass.come, at.come, order);
        soon = omega (arith, pass.soon);
      }
    where
      wrapped : (e edge more : ℕ) → e ≡ edge % 2 ^ 32 → (e + more) % 2 ^ 32 ≡ (edge + more) % 2 ^ 32
      wrapped e edge more is = omega (arith, is)

  -- to an edge that has come
  pub voted_count : (end_us end : ℕ) → IsEdgeAt end_us end now → now ≤ end + 103000 → edges_to e end_us ≡ edges_between edge end
  voted_count end_us end vote near =
      ap (λ (x : ℕ). edges_to x end_us) at.clock ∙ ap (edges_to (edge % 2 ^ 32)) vote.clock
      ∙ wraps edge end (omega (arith, at.come, order, near)) (omega (arith, at.soon, soon, vote.come))

-- there is one such edge
pub same_edge : (e edge edge' now : ℕ) → IsEdgeAt e edge now → IsEdgeAt e edge' now → edge ≡ edge'
same_edge e edge edge' now at at' = by_clock e edge edge' at.clock at'.clock (omega (arith, at.come, at'.soon)) (omega (arith, at'.come, at.soon))
  where
    by_clock : (e edge edge' : ℕ) → e ≡ edge % 2 ^ 32 → e ≡ edge' % 2 ^ 32 → edge ≤ edge' + 1006000 → edge' ≤ edge + 1006000 → edge ≡ edge'
    by_clock e edge edge' is is' near near' = omega (arith, is, is', near, near')
