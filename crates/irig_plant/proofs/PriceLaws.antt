-- How many false seconds unclean ticks cost: each rests on one of them, at most `holdover` edges
-- back.
use Rattle.std.specs.Prelude.{All}
use Rattle.std.proofs.Common.{ℕ, zero, suc, ◌+◌, ◌*◌, ◌<◌, ◌≤◌, List, [], ◌∷◌, length, sym, ap, subst, arith, inl, inr}
use Rattle.std.proofs.lemmas.Bool.{cases_lt}
use Rattle.std.proofs.lemmas.List.Elements.{All-nil, All-cons, All-head, All-tail, All-contains}
use Rattle.irig_time.specs.TimelineFaults.{IsTimeline}
use Rattle.irig_plant.specs.declared.event.Event.{Event}
use Rattle.irig_plant.specs.declared.event.Event.TheVariants.{Tick}
use Rattle.irig_plant.specs.declared.entry.Entry.{Entry}
use Rattle.irig_plant.specs.Schedule.{Setup, setup_at, ticks_of, log_of}
use Rattle.irig_vote.specs.Counts.{AreRising, AtMost}
use Rattle.irig_plant.specs.OwnEdge.{HasFalseMajority}
use Rattle.irig_plant.specs.Healing.{HasMonthEnds, RestsOnItsMajority, IsCleanBetween, IsCleanSince, IsFalseEdge}
use Rattle.irig_plant.proofs.CourseLaws.{ticks_grow, ticks_now}
use Rattle.irig_plant.proofs.HealingLaws.{log_rests_on_majorities, held}

-- ---- numbers that lie at most so far behind others

-- so many for each
abbrev total : ℕ → List ℕ → ℕ
total each [] = 0
total each (n ∷ ns) = each + total each ns

at_most_total : (each count : ℕ) (ns : List ℕ) → length ns ≤ count → total each ns ≤ count * each
at_most_total each count [] few = omega arith
at_most_total each zero (n ∷ ns) few = absurd (omega (arith, few))
at_most_total each (suc count) (n ∷ ns) few = omega (arith, at_most_total each count ns (omega (arith, few)))

module _ (limit : ℕ) (IsLate IsEarly : ℕ → Type 0) where
  record IsBehind (n : ℕ) : Type 0 where
    first : ℕ
    early : IsEarly first
    to : first ≤ n
    near : n ≤ first + limit

  -- early ones from low on, each with the late ones behind it; those below the border are behind an
  -- earlier one
  record Grouped (low border from : ℕ) (ns : List ℕ) : Type 0 where
    firsts : List ℕ
    rising : AreRising low firsts
    early : All IsEarly firsts
    enough : length ns + from ≤ border + total (limit + 1) firsts

  grouped : ((n : ℕ) → IsLate n → IsBehind n) → (ns : List ℕ) (low border from : ℕ) → from ≤ border → ((k : ℕ) → border ≤ k + limit → low ≤ k) → AreRising from ns → All IsLate ns → Grouped low border from ns
  grouped behind [] low border from within next rising late = record { firsts = []; rising = tt; early = All-nil IsEarly; enough = omega (arith, within) }
  grouped behind (n ∷ ns) low border from within next rising late =
      elim (cases_lt n border) [
        | inl below ↦
            let rest : Grouped low border (n + 1) ns = grouped behind ns low border (n + 1) (omega (arith, below)) next rising.1 (All-tail IsLate n ns late) in
            record { firsts = rest.firsts; rising = rest.rising; early = rest.early; enough = omega (arith, rest.enough, rising.0) }
        | inr above ↦
            let on : IsBehind n = behind n (All-head IsLate n ns late) in
            let rest : Grouped (on.first + 1) (on.first + limit + 1) (n + 1) ns =
            grouped behind ns (on.first + 1) (on.first + limit + 1) (n + 1) (omega (arith, on.near)) (λ k far. omega (arith, far)) rising.1 (All-tail IsLate n ns late) in
            record {
              firsts = on.first ∷ rest.firsts;
              rising = (next on.first (omega (arith, above, on.near)), rest.rising);
              early = All-cons IsEarly on.first rest.firsts on.early rest.early;
              enough = omega (arith, rest.enough, on.to, within);
            }
      ]

  at_most_each : ((n : ℕ) → IsLate n → IsBehind n) → (count : ℕ) → AtMost count IsEarly → AtMost (count * (limit + 1)) IsLate
  at_most_each behind count few ns rising late =
      let groups : Grouped 0 0 0 ns = grouped behind ns 0 0 0 (omega arith) (λ k far. omega arith) rising late in
      omega (arith, groups.enough, at_most_total (limit + 1) count groups.firsts (few groups.firsts groups.rising groups.early))

-- ---- false seconds

module _ (s : Setup) (r : ℕ) (ev : List Event) (sound : IsTimeline s.times) (knows : HasMonthEnds s r) where
  abbrev limit : ℕ
  limit = (setup_at s.readers r).rules.holdover

  abbrev IsUnclean : ℕ → Type 0
  IsUnclean k = HasFalseMajority s r k ev

  behind : (n : ℕ) → IsFalseEdge s r ev n → IsBehind limit (IsFalseEdge s r ev) IsUnclean n
  behind n h =
      let rests : RestsOnItsMajority s ev h.entry = All-contains (RestsOnItsMajority s ev) (log_of s ev) h.entry (log_rests_on_majorities s ev sound) h.logged in
      let on = rests.false_second (subst (HasMonthEnds s) (sym h.reader) knows) h.untrue in
      let near : on.1.age ≤ limit = subst (λ (q : ℕ). on.1.age ≤ (setup_at s.readers q).rules.holdover) h.reader on.1.near in
      record {
        first = on.0;
        early = subst (λ (q : ℕ). HasFalseMajority s q on.0 ev) h.reader on.2;
        to = omega (arith, on.1.back, h.edge);
        near = omega (arith, on.1.back, h.edge, near);
      }

  pub price : (count : ℕ) → AtMost count IsUnclean → AtMost (count * (limit + 1)) (IsFalseEdge s r ev)
  price count few = at_most_each limit (IsFalseEdge s r ev) IsUnclean behind count few

-- ---- after the last unclean tick

-- numbers in rising order within a range are no more than it is long
few_within : (from top : ℕ) (ns : List ℕ) → from ≤ top → AreRising from ns → All (λ n. n < top) ns → length ns + from ≤ top
few_within from top [] low rising below = omega (arith, low)
few_within from top (n ∷ ns) low rising below =
    let first : n < top = All-head (λ k. k < top) n ns below in
    omega (arith, rising.0, few_within (n + 1) top ns (omega (arith, first)) rising.1 (All-tail (λ k. k < top) n ns below))

few_after : (m limit : ℕ) (ns : List ℕ) → AreRising 0 ns → All (λ n. (m < n) × (n ≤ m + limit)) ns → length ns ≤ limit
few_after m limit [] rising near = omega arith
few_after m limit (n ∷ ns) rising near =
    let first = All-head (λ k. (m < k) × (k ≤ m + limit)) n ns near in
    let rest : All (λ k. k < m + limit + 1) ns = λ i d low. let at = All-tail (λ k. (m < k) × (k ≤ m + limit)) n ns near i d low in omega (arith, at.1) in
    omega (arith, first.0, few_within (n + 1) (m + limit + 1) ns (omega (arith, first.1)) rising.1 rest)

-- if all ticks since are clean, so are those up to the n-th
clean_to : (n : ℕ) (s : Setup) (r m : ℕ) (ev : List Event) → IsCleanBetween s r m (ticks_of r ev) ev → IsCleanBetween s r m n ev
clean_to n s r m ev clean = record {
  ticks = λ later earlier is from low. clean.ticks later earlier is from (omega (arith, ap (ticks_of r) is, ticks_grow r later (Tick r ∷ earlier), ticks_now r earlier));
}

module _ (s : Setup) (r m : ℕ) (ev : List Event) (sound : IsTimeline s.times) (knows : HasMonthEnds s r) (clean : IsCleanBetween s r m (ticks_of r ev) ev) where
  near_after : (n : ℕ) → (m < n) × IsFalseEdge s r ev n → (m < n) × (n ≤ m + (setup_at s.readers r).rules.holdover)
  near_after n h =
      let e : Entry = h.1.entry in
      let since : IsCleanSince s m ev e = record {
        timeline = sound;
        month_ends = subst (HasMonthEnds s) (sym h.1.reader) knows;
        logged = h.1.logged;
        after = omega (arith, h.0, h.1.edge);
        clean = clean_to e.edge s e.reader m ev (subst (λ (q : ℕ). IsCleanBetween s q m (ticks_of q ev) ev) (sym h.1.reader) clean);
      } in
      let at : e.edge ≤ m + (setup_at s.readers r).rules.holdover = subst (λ (q : ℕ). e.edge ≤ m + (setup_at s.readers q).rules.holdover) h.1.reader (held s m ev e since h.1.untrue).1 in
      (h.0, omega (arith, at, h.1.edge))

  pub few_held : AtMost (setup_at s.readers r).rules.holdover (λ n. (m < n) × IsFalseEdge s r ev n)
  few_held ns rising late = few_after m (setup_at s.readers r).rules.holdover ns rising (λ i d low. near_after _ (late i d low))
