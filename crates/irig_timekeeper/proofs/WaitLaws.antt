-- How long to wait, and that enough lines agree.
use Rattle.std.specs.Prelude.{nat_le, nat_lt, slice_get}
use Rattle.std.proofs.Common.{◌≡◌, ◌∙◌, ℕ, zero, suc, ◌+◌, ◌-◌, ◌%◌, ◌^◌, ◌<◌, ◌≤◌, Bool, true, false, cond, List, [], ◌∷◌, Option, Some, None, refl, sym, subst, arith, inl, inr}
use Rattle.std.proofs.lemmas.Bool.{cases_lt}
use Rattle.irig_sync.specs.Sync.{clock_gap}
use Rattle.irig_vote.specs.Vote.{f_of}
use Rattle.irig_lines.specs.declared.lines.KeptClaim.{KeptClaim}
use Rattle.irig_lines.specs.declared.lines.Lines.{Lines}
use Rattle.irig_lines.specs.declared.lines.Vote.{Vote}
use Rattle.irig_lines.specs.declared.setup.ClockRules.{ClockRules}
use Rattle.irig_lines.specs.Widths.{reach_us}
use Rattle.irig_lines.specs.Counting.{edges_own}
use Rattle.irig_lines.specs.Steps.{line_at, claim_kept, all_kept, last_us, is_candidate, earlier, first_candidate, vote_with, agreed, wait_by}
use Rattle.irig_lines.proofs.PartLaws.{vote_by}
use Rattle.irig_lines.specs.declared.pace.Pace.{Pace}
use Rattle.irig_timekeeper.specs.Truth.{IsEdgeAt}
use Rattle.irig_timekeeper.proofs.TimeLaws.{one_at, own_come, own_count, still_edge}

-- ---- waiting

low_is : (g : ℕ) → g < 2 ^ 31 → nat_lt g (2 ^ 31) ≡ true
low_is g h = grind (arith, h)

high_is : (g : ℕ) → 2 ^ 31 ≤ g → nat_lt g (2 ^ 31) ≡ false
high_is g h = grind (arith, h)

module _ (e edge tick now : ℕ) (at : IsEdgeAt e edge tick) (order : tick ≤ now) (soon : now ≤ tick + 1800000000) where
  wait_ahead : now < edge + 1006000 → wait_by (now % 2 ^ 32) (Some e) None ≡ edge + 1006000 - now
  wait_ahead ahead =
      let gap : clock_gap (now % 2 ^ 32) ((e + 1006000) % 2 ^ 32) ≡ edge + 1006000 - now = to_gap e edge now at.clock (omega (arith, ahead)) (omega (arith, at.come, order)) in
      let low = low_is (edge + 1006000 - now) (omega (arith, at.come, order)) in
      rw (gap, low) refl
    where
      to_gap : (e edge now : ℕ) → e ≡ edge % 2 ^ 32 → now ≤ edge + 1006000 → edge ≤ now → clock_gap (now % 2 ^ 32) ((e + 1006000) % 2 ^ 32) ≡ edge + 1006000 - now
      to_gap e edge now is ahead come = omega (arith, is, ahead, come)

  wait_behind : edge + 1006000 < now → wait_by (now % 2 ^ 32) (Some e) None ≡ 0
  wait_behind behind =
      let far : 2 ^ 31 ≤ clock_gap (now % 2 ^ 32) ((e + 1006000) % 2 ^ 32) = from_gap e edge now at.clock behind (omega (arith, at.soon, soon)) in
      let high = high_is (clock_gap (now % 2 ^ 32) ((e + 1006000) % 2 ^ 32)) far in
      rw high refl
    where
      from_gap : (e edge now : ℕ) → e ≡ edge % 2 ^ 32 → edge + 1006000 < now → now ≤ edge + 1801006000 → 2 ^ 31 ≤ clock_gap (now % 2 ^ 32) ((e + 1006000) % 2 ^ 32)
      from_gap e edge now is behind near = omega (arith, is, behind, near)

  wait_now : edge + 1006000 ≡ now → wait_by (now % 2 ^ 32) (Some e) None ≡ 0
  wait_now same =
      let gap : clock_gap (now % 2 ^ 32) ((e + 1006000) % 2 ^ 32) ≡ 0 = no_gap e edge now at.clock same in
      rw gap refl
    where
      no_gap : (e edge now : ℕ) → e ≡ edge % 2 ^ 32 → edge + 1006000 ≡ now → clock_gap (now % 2 ^ 32) ((e + 1006000) % 2 ^ 32) ≡ 0
      no_gap e edge now is same = omega (arith, is, same)

  -- what is counted at a time
  own_then : (pace : Option Pace) → edges_own pace (Some e) (now % 2 ^ 32) ≡ own_come pace edge now
  own_then pace = own_count tick now order soon e edge at pace

  -- it is so long that the edge is counted behind it
  pub enough : edge + 1006000 ≤ now + wait_by (now % 2 ^ 32) (Some e) None
  enough = elim (cases_lt now (edge + 1006000)) [
    | inl ahead ↦ omega (arith, wait_ahead ahead, ahead)
    | inr behind ↦ omega (arith, behind)
  ]

  pub waits : (pace : Option Pace) → edges_own pace (Some e) (now % 2 ^ 32) ≡ 0 → (1 ≤ wait_by (now % 2 ^ 32) (Some e) None) × (wait_by (now % 2 ^ 32) (Some e) None ≤ 1006000)
  waits pace none =
      let ahead : now < edge + 1006000 = (still_edge tick now order soon e edge at pace (sym (own_then pace) ∙ none)).soon in
      (omega (arith, wait_ahead ahead, ahead), omega (arith, wait_ahead ahead, at.come, order))

pub counts_then : (pace : Option Pace) (e edge tick now more : ℕ) → IsEdgeAt e edge tick → tick ≤ now → now + wait_by (now % 2 ^ 32) (Some e) None + more ≤ tick + 1800000000
    → 1 ≤ edges_own pace (Some e) ((now + wait_by (now % 2 ^ 32) (Some e) None + more) % 2 ^ 32)
counts_then pace e edge tick now more at order soon =
    let then : ℕ = now + wait_by (now % 2 ^ 32) (Some e) None + more in
    let there = enough e edge tick now at order (omega (arith, soon)) in
    let count = own_then e edge tick then at (omega (arith, order)) soon pace in
    let one = one_at pace (then - edge) (omega (arith, there)) in
    omega (arith, count, one)

-- ---- enough lines agree

module _ (window f : ℕ) (all : List (Option KeptClaim)) where
  IsThere : Option KeptClaim → Type 0
  IsThere o = (y : KeptClaim) × (o ≡ Some y)

  earlier_there : (so_far : Option KeptClaim) (x : KeptClaim) → IsThere (earlier window so_far x)
  unfolding IsThere
  earlier_there None x = (x, refl)
  earlier_there (Some y) x = of (nat_le (clock_gap (last_us y) (last_us x)) window)
    where
      of : (b : Bool) → (z : KeptClaim) × (cond b (Some y) (Some x) ≡ Some z)
      of true = (y, refl)
      of false = (x, refl)

  -- once there is one, there is one
  stays_there : (xs : List (Option KeptClaim)) (so_far : Option KeptClaim) → IsThere so_far → IsThere (first_candidate window f all xs so_far)
  stays_there [] so_far h = h
  stays_there (None ∷ xs) so_far h = stays_there xs so_far h
  stays_there (Some x ∷ xs) so_far h = stays_there xs _ (of (is_candidate f x all))
    where
      of : (b : Bool) → IsThere (cond b (earlier window so_far x) so_far)
      of true = earlier_there so_far x
      of false = h

  comes_there : (x : KeptClaim) (xs : List (Option KeptClaim)) (so_far : Option KeptClaim) → is_candidate f x all ≡ true → IsThere (first_candidate window f all (Some x ∷ xs) so_far)
  comes_there x xs so_far is = rw is (stays_there xs (earlier window so_far x) (earlier_there so_far x))

  goes_on : (o : Option KeptClaim) (xs : List (Option KeptClaim)) → ((so_far : Option KeptClaim) → IsThere (first_candidate window f all xs so_far)) → (so_far : Option KeptClaim) → IsThere (first_candidate window f all (o ∷ xs) so_far)
  goes_on None xs h so_far = h so_far
  goes_on (Some y) xs h so_far = h _

  starts : (o : Option KeptClaim) (x : KeptClaim) (xs : List (Option KeptClaim)) → o ≡ Some x → is_candidate f x all ≡ true → (so_far : Option KeptClaim) → IsThere (first_candidate window f all (o ∷ xs) so_far)
  starts None x xs e is so_far = absurd cc
  starts (Some y) x xs e is so_far =
      let same : x ≡ y = cc in
      comes_there y xs so_far (subst (λ (v : KeptClaim). is_candidate f v all ≡ true) same is)

  there_in : (x : KeptClaim) (xs : List (Option KeptClaim)) (i : ℕ) → slice_get xs i ≡ Some (Some x) → is_candidate f x all ≡ true → (so_far : Option KeptClaim) → IsThere (first_candidate window f all xs so_far)
  there_in x [] i e is so_far = absurd cc
  there_in x (o ∷ xs) zero e is so_far = let same : o ≡ Some x = cc in starts o x xs same is so_far
  there_in x (o ∷ xs) (suc i) e is so_far = goes_on o xs (there_in x xs i e is) so_far

  pub there_of : (x : KeptClaim) (i : ℕ) → slice_get all i ≡ Some (Some x) → is_candidate f x all ≡ true → (y : KeptClaim) × (first_candidate window f all all None ≡ Some y)
  unfolding IsThere
  there_of x i e is = there_in x all i e is None

pub get_kept : (c : ClockRules) (lines : Lines) (i : ℕ) (x : KeptClaim) → i < 5 → claim_kept c (line_at lines i).frame ≡ Some x → slice_get (all_kept c lines) i ≡ Some (Some x)
get_kept c lines zero x low e = cc
get_kept c lines (suc zero) x low e = cc
get_kept c lines (suc (suc zero)) x low e = cc
get_kept c lines (suc (suc (suc zero))) x low e = cc
get_kept c lines (suc (suc (suc (suc zero)))) x low e = cc
get_kept c lines (suc (suc (suc (suc (suc i))))) x low e = absurd (omega (arith, low))

-- what agrees with enough others is a candidate, so there is a vote
pub one_is_agreed : (c : ClockRules) (lines : Lines) (i : ℕ) (x : KeptClaim) → i < 5 → claim_kept c (line_at lines i).frame ≡ Some x → is_candidate (f_of c.redundancy) x (all_kept c lines) ≡ true → (vote : Vote) × (agreed c lines ≡ Some vote)
one_is_agreed c lines i x low e is = of (first_candidate (reach_us c) (f_of c.redundancy) (all_kept c lines) (all_kept c lines) None) first.0 first.1
  where
    first : (y : KeptClaim) × (first_candidate (reach_us c) (f_of c.redundancy) (all_kept c lines) (all_kept c lines) None ≡ Some y)
    first = there_of (reach_us c) (f_of c.redundancy) (all_kept c lines) x i (get_kept c lines i x low e) is

    of : (o : Option KeptClaim) (y : KeptClaim) → o ≡ Some y → (vote : Vote) × (vote_with (reach_us c) c.drift_us (f_of c.redundancy) (all_kept c lines) o ≡ Some vote)
    of None y e = absurd cc
    of (Some y) z e = (vote_by c (all_kept c lines) y, refl)
