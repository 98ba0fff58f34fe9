-- How far apart two edges lie that are told in a row.
use Rattle.std.proofs.Common.{◌≡◌, ◌⊎◌, ℕ, ◌+◌, ◌-◌, ◌*◌, ◌<◌, ◌≤◌, ap, subst, arith, inl, inr}
use Rattle.std.proofs.lemmas.Bool.{cases_lt}
use Rattle.irig_lines.specs.Edges.{IsQuartz, IsNear}
use Rattle.irig_lines.specs.Exactness.{most_drift_us, most_held_us, most_vote_us}
use Rattle.irig_lines.specs.Counting.{edges_between}
use Rattle.irig_lines.proofs.CountingLaws.{rises}

-- an edge stands at x that was told at A: lines have set it right since, if at all
abbrev pub StoodBy : (ℕ → Type 0) → ℕ → ℕ → Type 0
StoodBy Put A x = (x ≡ A) ⊎ ((A ≤ x + 103000) × (x < A + 500000) × Put x)

-- then one is told at B, behind so many that were missed: by the own counter, which is at most 100 us a
-- second wrong, or by a vote
abbrev pub ComesBy : (ℕ → Type 0) → (missed x B : ℕ) → Type 0
ComesBy Put missed x B =
    ((x + (missed + 1) * 999900 ≤ B) × (B ≤ x + (missed + 1) * 1000100))
    ⊎ ((missed + 1 ≡ edges_between x B) × Put B)

-- a true vote's edge
pub record IsPut (edges : ℕ → ℕ) (early late x : ℕ) : Type 0 where
  pub m : ℕ
  pub near : IsNear edges (early + most_vote_us) (late + most_vote_us) m x

module _ (d : ℕ) (edges : ℕ → ℕ) (quartz : IsQuartz d edges) where
  rise_to : (i j : ℕ) → i ≤ j → edges i + (j - i) * 999900 ≤ edges j
  rise_to i j low =
      let there : i + (j - i) ≡ j = omega (arith, low) in
      subst (λ (x : ℕ). edges i + (j - i) * 999900 ≤ edges x) there (rises d edges quartz i (j - i))

  -- less than two seconds behind an edge is the next one at most
  next_at : (i j : ℕ) → edges j < edges i + 1999800 → edges j ≤ edges i + 1000000 + most_drift_us
  next_at i j close = elim (cases_lt i j) [
    | inr upto ↦ omega (arith, rise_to j i upto, close)
    | inl more ↦
        let same : j ≡ i + 1 = omega (arith, rise_to i j (omega (arith, more)), more, close) in
        let here : edges j ≡ edges (i + 1) = ap edges same in
        omega (arith, here, quartz.steady.most i, quartz.few)
  ]

  -- less than a second behind it is that one
  same_at : (i j : ℕ) → edges j < edges i + 999900 → edges j ≤ edges i
  same_at i j close = elim (cases_lt i j) [
    | inr upto ↦ omega (arith, rise_to j i upto)
    | inl more ↦ absurd (omega (arith, rise_to i j (omega (arith, more)), more, close))
  ]

  module _ (early late : ℕ) (room : early + late ≤ 3002) (A bound m : ℕ) (near : IsNear edges (early + bound) (late + bound) m A) (small : bound ≤ most_vote_us + most_held_us) where
    Put : ℕ → Type 0
    Put = IsPut edges early late

    stands : (x : ℕ) → StoodBy (IsPut edges early late) A x → x ≤ A + bound + most_vote_us + early + late
    stands x (inl same) = omega (arith, same)
    stands x (inr set) =
        let put = set.2 in
        let low = same_at m put.m (omega (arith, put.near.least, set.1, near.most, small, room)) in
        omega (arith, put.near.most, low, near.least)

    -- if it lies less than a second and a half behind, no second lies between
    pub reach : (missed x B : ℕ) → StoodBy (IsPut edges early late) A x → ComesBy (IsPut edges early late) missed x B → B < A + 1500000 → B ≤ A + 1000000 + bound + most_vote_us + most_drift_us + early + late
    reach missed x B stood (inl own) close =
        let back : A ≤ x + 103000 = elim stood [ inl same ↦ omega (arith, same) | inr set ↦ set.0 ] in
        omega (arith, own.0, own.1, stands x stood, back, close)
    reach missed x B stood (inr voted) close =
        let put = voted.1 in
        let next = next_at m put.m (omega (arith, put.near.least, close, near.most, small, room)) in
        omega (arith, put.near.most, next, near.least)

    -- if none was missed it lies less than a second and a half behind
    pub close : (x B : ℕ) → StoodBy (IsPut edges early late) A x → ComesBy (IsPut edges early late) 0 x B → B < A + 1500000
    close x B stood (inl own) = omega (arith, own.1, stands x stood, small, room)
    close x B (inl same) (inr voted) = omega (arith, same, voted.0)
    close x B (inr set) (inr voted) =
        let from = set.2 in
        let put = voted.1 in
        let low = same_at m from.m (omega (arith, from.near.least, set.1, near.most, small, room)) in
        let next = next_at from.m put.m (omega (arith, put.near.least, voted.0, from.near.most, room)) in
        omega (arith, put.near.most, next, low, near.least, small, room)
