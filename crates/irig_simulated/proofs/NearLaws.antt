-- The true edge to which a told one lies nearest is its own, if it lies as near that as bounds are.
use Rattle.std.proofs.Common.{◌≡◌, ◌∙◌, ℕ, Some, ◌+◌, ◌-◌, ◌*◌, ◌/◌, ◌%◌, ◌^◌, ◌<◌, ◌≤◌, ap, arith, subst, sym}
use Rattle.std.proofs.lemmas.Nat.{div-mul-add}
use Rattle.irig_sync.specs.Sync.{clock_gap}
use Rattle.irig_time.specs.declared.second.UtcSecond.{UtcSecond}
use Rattle.irig_time.specs.Timelines.{TimelineValue, IsSecond}
use Rattle.irig_lines.specs.declared.setup.ClockRules.{ClockRules}
use Rattle.irig_lines.specs.Exactness.{most_held_us, most_vote_us}
use Rattle.irig_timekeeper.specs.declared.clock.Beat.{Beat}
use Rattle.irig_timekeeper.specs.Truth.{IsToldInHoldover}
use Rattle.irig_wires.specs.Oscillator.{edges_by}
use Rattle.irig_simulated.specs.Courses.{edge_near, told_count_of, told_second}
use Rattle.irig_simulated.specs.Truth.{IsToldOfItsEdge}

pub nearest : (first rate m told b : ℕ) → 999900 ≤ rate → b ≤ 492899 → edges_by first rate m ≤ told + b → told ≤ edges_by first rate m + b → edge_near first rate told ≡ m
nearest first rate m told b slow small least most =
    let rest : told + rate / 2 - first ≡ m * rate + (told + rate / 2 - first - m * rate) = omega (arith, slow, small, least, most) in
    let low : told + rate / 2 - first - m * rate < rate = omega (arith, slow, small, least, most) in
    ap (λ (x : ℕ). x / rate) rest ∙ div-mul-add m rate (told + rate / 2 - first - m * rate) low

pub counted : (now edge : ℕ) (beat : Beat) → beat.edge_us ≡ edge % 2 ^ 32 → edge ≤ now → now < edge + 1006000 → told_count_of now beat ≡ edge
counted now edge beat clock come soon =
    let gap : clock_gap (edge % 2 ^ 32) (now % 2 ^ 32) ≡ now - edge = omega (arith, come, soon) in
    let same : clock_gap beat.edge_us (now % 2 ^ 32) ≡ now - edge = ap (λ (e : ℕ). clock_gap e (now % 2 ^ 32)) clock ∙ gap in
    omega (arith, same, come)

pub told_of_edge : (t : TimelineValue) (first rate now : ℕ) (c : ClockRules) (beat : Beat) → 999900 ≤ rate
    → ((u : UtcSecond) → beat.report.announce ≡ Some u → IsToldInHoldover t (edges_by first rate) 0 0 c now beat u)
    → IsToldOfItsEdge t (told_second first rate (told_count_of now beat) beat)
told_of_edge t first rate now c beat slow is u says =
    let h = is u says in
    let at = counted now h.told.edge beat h.told.clock h.told.come h.told.soon in
    let small : beat.bound_us ≤ 492899 = h.small in
    let least : edges_by first rate h.told.m ≤ told_count_of now beat + beat.bound_us = omega (arith, at, h.told.near.least) in
    let most : told_count_of now beat ≤ edges_by first rate h.told.m + beat.bound_us = omega (arith, at, h.told.near.most) in
    let same = nearest first rate h.told.m (told_count_of now beat) beat.bound_us slow small least most in (
      subst (λ (n : ℕ). IsSecond t n u) (sym same) h.told.truth,
      subst (λ (n : ℕ). edges_by first rate n ≤ told_count_of now beat + beat.bound_us) (sym same) least,
      subst (λ (n : ℕ). told_count_of now beat ≤ edges_by first rate n + beat.bound_us) (sym same) most,
    )
