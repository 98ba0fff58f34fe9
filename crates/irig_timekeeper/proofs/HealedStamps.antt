-- Since a vote that heals a device its stamps are true.
use Rattle.std.specs.Prelude.{◌==◌}
use Rattle.std.proofs.Common.{◌≡◌, ◌∙◌, ◌⊎◌, ℕ, ◌+◌, ◌-◌, ◌%◌, ◌^◌, ◌<◌, ◌≤◌, List, [], ◌∷◌, ◌++◌, Option, Some, None, refl, sym, ap, subst, arith, inl, inr}
use Rattle.std.proofs.lemmas.Bool.{cases_Bool}
use Rattle.irig_sync.specs.Lines.{Pulse}
use Rattle.irig_sync.specs.Sync.{clock_gap}
use Rattle.irig_time.specs.declared.second.UtcSecond.{UtcSecond}
use Rattle.irig_time.specs.declared.rules.Rules.{Rules}
use Rattle.irig_time.specs.Timelines.{TimelineValue}
use Rattle.irig_time.specs.Tables.{TableValue}
use Rattle.irig_vote.specs.Vote.{f_of}
use Rattle.irig_lines.specs.declared.lines.Lines.{Lines}
use Rattle.irig_lines.specs.declared.lines.Vote.{Vote}
use Rattle.irig_timekeeper.specs.declared.stamp.Announced.{Announced}
use Rattle.irig_timekeeper.specs.declared.stamp.Stamp.{Stamp}
use Rattle.irig_timekeeper.specs.declared.clock.Beat.{Beat}
use Rattle.irig_lines.specs.declared.setup.ClockRules.{ClockRules}
use Rattle.irig_timekeeper.specs.declared.clock.ClockState.{ClockState}
use Rattle.irig_lines.specs.Exactness.{most_held_us, most_vote_us}
use Rattle.irig_lines.specs.Counting.{edges_to_vote}
use Rattle.irig_lines.specs.Steps.{AreNewLines}
use Rattle.irig_timekeeper.specs.Clock.{announced_at, still_serves, beat_by, step_to, after_vote, answer_to_vote, clock_by, answer_by, settled_at}
use Rattle.irig_timekeeper.specs.Stamps.{next_us, stamp_by}
use Rattle.irig_timekeeper.specs.Keeping.{Keeping, new_keeping, vote_at, after_tick, answer_at, stamp_at}
use Rattle.irig_timekeeper.specs.Truth.{IsEdgeAt, IsDevice, IsStampedTruly}
use Rattle.irig_timekeeper.specs.Life.{Call, after_calls, last_tick, AreInOrder, AreTrueLately, AreTrueOver}
use Rattle.irig_timekeeper.specs.Life.Call.{Hear, Tick}
use Rattle.irig_timekeeper.proofs.TimeLaws.{same_edge}
use Rattle.irig_timekeeper.proofs.LifeLaws.{begins, TellAlwaysTruly}
use Rattle.irig_timekeeper.proofs.StampLaws.{AnyEdge, not_served, puts_truly, served_by, leaves_told, IsToldAnyhow, IsToldSo, IsToldBefore, state, IfStamps, TellSo, TellsSo, beat_stamps, stamps, stamps_on, tell_anyhow, tells_truly, stamped_by, by_earlier}
use Rattle.irig_lines.proofs.ReachLaws.{IsPut}
use Rattle.irig_timekeeper.proofs.HealLaws.{mended, tick_since}
use Rattle.irig_timekeeper.specs.Rule.{against_table}

-- ---- what serves on behind a vote

served : (vote : Option Vote) (announce : Option UtcSecond) (last : Option Announced) (v : Vote) (a : Announced) → still_serves (Some v.claim) announce last ≡ Some a → (u : UtcSecond) × (announce ≡ Some u)
served vote None last v a e = absurd cc
served vote (Some u) last v a e = (u, refl)

serves_voted : (c : ClockRules) (table : TableValue) (s : ClockState) (v : Vote) (n : ℕ) (b : Beat) (a : Announced) → answer_to_vote c table s v n ≡ Some b → (after_vote c table s v n).before ≡ Some a → (u : UtcSecond) × (b.report.announce ≡ Some u)
serves_voted c table s v n b a answer e = elim (cases_Bool (n == 0)) [
  | inl waits ↦ let both : None ≡ Some b = rw waits at answer in absurd cc
  | inr more ↦
      let told : Some (beat_by c s (against_table table (Some v.claim)) (step_to c table s n (Some v.claim)) (n - 1) v.edge_us v.bound_us) ≡ Some b = rw more at answer in
      let beat : beat_by c s (against_table table (Some v.claim)) (step_to c table s n (Some v.claim)) (n - 1) v.edge_us v.bound_us ≡ b = cc in
      let kept : still_serves (Some v.claim) (step_to c table s n (Some v.claim)).report.announce s.last ≡ Some a = rw more at e in
      let says = served (Some v) (step_to c table s n (Some v.claim)).report.announce s.last v a kept in
      (says.0, ap (λ (x : Beat). x.report.announce) (sym beat) ∙ says.1)
]

-- what was announced before a vote is kept only if the vote announces a second
serves_by : (k : Keeping) (clock : ℕ) (v : Vote) (b : Beat) (a : Announced) → vote_at k clock ≡ Some v → answer_at k clock ≡ Some b → (after_tick k clock).state.before ≡ Some a → (u : UtcSecond) × (b.report.announce ≡ Some u)
serves_by k clock v b a voted = of (vote_at k clock) voted
  where
    s : ClockState
    s = settled_at k.clock k.state clock

    of : (o : Option Vote) → o ≡ Some v → answer_by k.clock k.table s clock o ≡ Some b → (clock_by k.clock k.table s clock o).before ≡ Some a → (u : UtcSecond) × (b.report.announce ≡ Some u)
    of None e answer kept = absurd cc
    of (Some x) e answer kept = serves_voted k.clock k.table s x (edges_to_vote k.state.edge_us x.edge_us) b a answer kept

-- and then that one is the last
says_last : (edge bound : ℕ) (o : Option UtcSecond) (u : UtcSecond) → o ≡ Some u → (x : Announced) × (announced_at edge bound o ≡ Some x)
says_last edge bound None u e = absurd cc
says_last edge bound (Some w) u e = (record { second = w; edge_us = edge; bound_us = bound }, refl)

-- ---- a device

module _ (rules : Rules) (clock : ClockRules) (table : TableValue) (lines : Lines) (start : ℕ) (fresh : AreNewLines lines) (IsTrue : ℕ → List Pulse → Type 0) (t : TimelineValue) (edges : ℕ → ℕ) (early late more : ℕ)
    (is : IsDevice t clock.drift_us edges clock.reader_rules table) (room : early + late ≤ 3002) (low : early ≤ more) (high : late ≤ more) (truly : TellAlwaysTruly IsTrue clock rules t edges early late) (plain : clock.wander_ppb ≡ 0)
    (earlier : List Call) (mend : ℕ) (v : Vote) (b : Beat) (lately : AreTrueLately IsTrue (f_of clock.redundancy) mend earlier) where
  abbrev new : Keeping
  new = new_keeping rules clock table lines

  abbrev base : List Call
  base = Tick mend ∷ earlier

  abbrev Told : ℕ → Announced → Type 0
  Told edge a = IsToldSo t edges early late clock.drift_us edge a

  abbrev Put : ℕ → Type 0
  Put = IsPut edges early late

  -- what was announced before the vote stays only beside what the vote announces
  record IsOld (last : Option Announced) (A : ℕ) (a : Announced) : Type 0 where
    old : IsToldBefore AnyEdge IsToldAnyhow A a
    at : IsEdgeAt b.edge_us A mend
    said : (u : UtcSecond) × (b.report.announce ≡ Some u)
    beside : (x : Announced) × (last ≡ Some x)

  Before : Option Announced → ℕ → Announced → Type 0
  Before last A a = IsToldBefore Put Told A a ⊎ IsOld last A a

  made : (last : Option Announced) (edge : ℕ) (a : Announced) → IsToldBefore Put Told edge a → Before last edge a
  unfolding Before
  made last edge a told = inl told

  split : (last : Option Announced) (A : ℕ) (a : Announced) → Before last A a → IsToldBefore Put Told A a ⊎ IsOld last A a
  unfolding Before
  split last A a was = was

  module _ (order : AreInOrder start clock.redundancy (Tick mend ∷ earlier)) (voted : vote_at (after_calls new earlier) (mend % 2 ^ 32) ≡ Some v) (answer : answer_at (after_calls new earlier) (mend % 2 ^ 32) ≡ Some b) where
    tells_mend : TellsSo rules clock table lines start fresh Told earlier mend
    tells_mend =
        tells_truly rules clock table lines start fresh t edges early late is earlier mend
        (λ x u told announces. ((mended IsTrue t edges early late new start (begins rules clock table lines start fresh) tt is room truly (record { off = plain; none = refl }) earlier mend v x order lately voted told).told u announces).told)

    turns_old : (edge : ℕ) → IsEdgeAt b.edge_us edge mend → (a : Announced) → (state rules clock table lines start fresh base).before ≡ Some a → IsToldBefore AnyEdge IsToldAnyhow edge a → Before (state rules clock table lines start fresh base).last edge a
    unfolding Before
    turns_old edge at a kept was =
        let k : Keeping = after_calls new earlier in
        let said = serves_by k (mend % 2 ^ 32) v b a voted answer kept in
        let left = (leaves_told k (mend % 2 ^ 32)).told b answer in
        let last = says_last b.edge_us b.bound_us b.report.announce said.0 said.1 in
        inr (record { old = was; at = at; said = said; beside = (last.0, left.0 ∙ last.1) })

    at_mend : IfStamps rules clock table lines start fresh Put Told Before base (state rules clock table lines start fresh base).edge_us
    at_mend =
        let any : Option Announced → ℕ → Announced → Type 0 = λ last A a. Unit {0} in
        let were = stamps rules clock table lines start fresh AnyEdge IsToldAnyhow any (λ last edge a was. tt) earlier order.3 (tell_anyhow rules clock table lines start fresh t edges is earlier) in
        beat_stamps rules clock table lines start fresh Put Told Before earlier mend order AnyEdge (λ x e V at. tt) IsToldAnyhow any b answer tells_mend turns_old were

    tell_since : (later : List Call) → AreInOrder start clock.redundancy (later ++ base) → AreTrueOver IsTrue (f_of clock.redundancy) later base → TellSo rules clock table lines start fresh Put Told later base
    tell_since [] ordered truth = tt
    tell_since (Hear port rise width ∷ later) ordered truth = tell_since later ordered.2 truth
    tell_since (Tick now ∷ later) ordered truth = (
      tells_truly rules clock table lines start fresh t edges early late is (later ++ base) now
          (λ x u told announces. ((tick_since IsTrue t edges early late new start (begins rules clock table lines start fresh) tt is room truly (record { off = plain; none = refl }) earlier mend v b lately voted answer later now ordered truth.0 truth.1).told x u told announces).told),
      puts_truly rules clock table lines start fresh t edges early late is IsTrue room truly (later ++ base) now ordered truth.0,
      tell_since later ordered.3 truth.1,
    )

    module _ (V time now : ℕ) (at : IsEdgeAt b.edge_us V mend) (when : (V ≤ time) ⊎ (b.report.announce ≡ None)) (past : time ≤ now) (young : now ≤ time + 1800000000) where
      -- an event that comes behind the vote's edge is no longer stamped by what came before
      gone : (last : Option Announced) (A tick : ℕ) (a : Announced) → now < tick + 1800000000 → tick < A + 1509000 → ((x : Announced) → last ≡ Some x → Told A x) → IsOld last A a → (stamp : Stamp) → stamp_by last 0 (time % 2 ^ 32) ≡ None → ¬ (stamp_by (Some a) (next_us last (Some a)) (time % 2 ^ 32) ≡ Some stamp)
      gone last A tick a soon near tells old stamp none says = elim when [
        | inr silent ↦ let both : None ≡ Some old.said.0 = sym silent ∙ old.said.1 in cc
        | inl behind ↦
            let same : A ≡ V = same_edge b.edge_us A V mend old.at at in
            let x : Announced = old.beside.0 in
            let told = tells x old.beside.1 in
            let far = not_served x 0 (time % 2 ^ 32) (ap (λ (o : Option Announced). stamp_by o 0 (time % 2 ^ 32)) (sym old.beside.1) ∙ none) in
            let serves = served_by a (next_us (Some x) (Some a)) (time % 2 ^ 32) stamp (ap (λ (o : Option Announced). stamp_by (Some a) (next_us o (Some a)) (time % 2 ^ 32)) (sym old.beside.1) ∙ says) in
            two_ways x.edge_us x.bound_us A V a.edge_us a.bound_us old.old.edge tick soon near same behind told.clock old.old.told.clock old.old.told.small old.old.order old.old.soon far serves.near
      ]
        where
          two_ways : (x bound A V y small old tick : ℕ) → now < tick + 1800000000 → tick < A + 1509000 → A ≡ V → V ≤ time → x ≡ A % 2 ^ 32 → y ≡ old % 2 ^ 32 → small ≤ most_vote_us + most_held_us → old + 500000 ≤ A → A < old + 1802000000
              → 1000000 + bound < clock_gap x (time % 2 ^ 32) → (clock_gap y (time % 2 ^ 32) ≤ 1000000 + small) ⊎ ((clock_gap y (time % 2 ^ 32) < clock_gap y x) × (clock_gap y x < 1500000)) → ⊥
          two_ways x bound A V y small old tick soon near same behind at_x at_y few apart later far close =
              let gap : clock_gap x (time % 2 ^ 32) + A ≡ time = omega (arith, soon, near, same, behind, at_x, past) in
              let other : clock_gap y (time % 2 ^ 32) + old ≡ time = omega (arith, soon, near, same, behind, at_y, past, apart, later) in
              let next : clock_gap y x + old ≡ A = omega (arith, at_x, at_y, apart, later) in
              elim close [ inl upto ↦ omega (arith, gap, other, far, upto, few, apart) | inr before ↦ omega (arith, other, next, before.0, same, behind) ]

      pub stamped_since : (later calls : List Call) → calls ≡ later ++ base → AreInOrder start clock.redundancy (Tick now ∷ calls) → AreTrueOver IsTrue (f_of clock.redundancy) later base → (stamp : Stamp) → stamp_at (after_calls new calls) (time % 2 ^ 32) ≡ Some stamp → IsStampedTruly t edges more time stamp
      stamped_since later calls are ordered truth = subst Stamps (sym are) from_base ordered
        where
          Stamps : List Call → Type 0
          Stamps calls = AreInOrder start clock.redundancy (Tick now ∷ calls) → (stamp : Stamp) → stamp_at (after_calls new calls) (time % 2 ^ 32) ≡ Some stamp → IsStampedTruly t edges more time stamp

          from_base : Stamps (later ++ base)
          from_base ordered stamp e =
              let calls : List Call = later ++ base in
              let ahead : last_tick start calls ≤ now = ordered.0 in
              let soon : now < last_tick start calls + 1800000000 = omega (arith, ordered.1) in
              let are = stamps_on rules clock table lines start fresh Put Told Before made base at_mend later ordered.3 (tell_since later ordered.3 truth) in
              stamped_by rules clock table lines start fresh t edges early late is more low high calls time now ahead soon past young Before
              (λ A a come near last was stamp none says. elim (split (state rules clock table lines start fresh calls).last A a was) [
                | inl told ↦ by_earlier rules clock table lines start fresh t edges early late is more low high calls time now ahead soon past young room A a come near (state rules clock table lines start fresh calls).last last told stamp says
                | inr old ↦ absurd (gone _ A (last_tick start calls) a soon near last old stamp none says)
              ])
              (state rules clock table lines start fresh calls).edge_us are stamp e
