-- Counting edges by a counter that drifts.
use Rattle.std.proofs.Common.{◌≡◌, ℕ, zero, suc, ◌+◌, ◌-◌, ◌*◌, ◌%◌, ◌^◌, ◌<◌, ◌≤◌, refl, arith}
use Rattle.irig_sync.specs.Sync.{clock_gap}
use Rattle.irig_lines.specs.Edges.{IsQuartz, IsNear}
use Rattle.irig_lines.specs.Counting.{edges_between, edges_to}

-- so many edges on
pub record AreApart (edges : ℕ → ℕ) (d w k : ℕ) : Type 0 where
  pub least : edges w + k * 1000000 ≤ edges (w + k) + k * d
  pub most : edges (w + k) ≤ edges w + k * 1000000 + k * d

pub apart : (d : ℕ) (edges : ℕ → ℕ) → IsQuartz d edges → (w k : ℕ) → AreApart edges d w k
apart d edges steady w zero =
    let same : w + 0 ≡ w = omega arith in
    record { least = rw same (omega arith); most = rw same (omega arith) }
apart d edges steady w (suc k) =
    let before = apart d edges steady w k in
    let next : w + suc k ≡ w + k + 1 = omega arith in
    record {
      least = rw next (omega (arith, before.least, steady.steady.least (w + k)));
      most = rw next (omega (arith, before.most, steady.steady.most (w + k)));
    }

pub counts : (d b1 b2 c1 c2 w k edge end : ℕ) (edges : ℕ → ℕ) → IsQuartz d edges → IsNear edges b1 b2 w edge → IsNear edges c1 c2 (w + k) end → b1 + k * d + c2 < 500000 → b2 + k * d + c1 ≤ 500000 → edges_between edge end ≡ k
counts d b1 b2 c1 c2 w k edge end edges steady last here few more =
    let far = apart d edges steady w k in
    omega (arith, far.least, far.most, last.least, last.most, here.least, here.most, few, more)

pub rises : (d : ℕ) (edges : ℕ → ℕ) → IsQuartz d edges → (w k : ℕ) → edges w + k * 999900 ≤ edges (w + k)
rises d edges steady w zero = let same : w + 0 ≡ w = omega arith in rw same (omega arith)
rises d edges steady w (suc k) =
    let next : w + suc k ≡ w + k + 1 = omega arith in
    rw next (omega (arith, rises d edges steady w k, steady.steady.least (w + k), steady.few))

pub wraps : (edge end : ℕ) → edge ≤ end + 500000 → end + 500000 < edge + 2 ^ 32 → edges_to (edge % 2 ^ 32) (end % 2 ^ 32) ≡ edges_between edge end
wraps edge end order soon =
    let gap : clock_gap (edge % 2 ^ 32) ((end % 2 ^ 32 + 500000) % 2 ^ 32) ≡ end + 500000 - edge = omega (arith, order, soon) in
    rw gap refl
