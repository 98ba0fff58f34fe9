-- Stamps name an instant within their bound of the true one.
use Rattle.std.specs.Prelude.{◌==◌, ◌&&◌, ◌||◌, nat_le, nat_lt}
use Rattle.std.proofs.Common.{◌≡◌, ◌∙◌, ◌⊎◌, ℕ, ◌+◌, ◌-◌, ◌*◌, ◌%◌, ◌^◌, ◌<◌, ◌≤◌, Bool, true, false, cond, List, [], ◌∷◌, ◌++◌, append-nil, Option, Some, None, refl, sym, ap, subst, arith, inl, inr}
use Rattle.std.proofs.lemmas.Bool.{cases_Bool, cases_lt, eqb-false, eqb-true, leb-true, leb-false, ltb-true}
use Rattle.std.proofs.Math.Nat.{mul-le-mul_left}
use Rattle.irig_sync.specs.Lines.{Pulse}
use Rattle.irig_sync.specs.Sync.{clock_gap}
use Rattle.irig_time.specs.declared.second.UtcSecond.{UtcSecond}
use Rattle.irig_time.specs.declared.claim.Claim.{Claim}
use Rattle.irig_time.specs.declared.rules.Rules.{Rules}
use Rattle.irig_time.specs.Timelines.{TimelineValue, IsSecond}
use Rattle.irig_time.specs.Tables.{TableValue}
use Rattle.irig_vote.specs.Vote.{f_of}
use Rattle.irig_lines.specs.declared.lines.Lines.{Lines}
use Rattle.irig_lines.specs.declared.lines.Vote.{Vote}
use Rattle.irig_timekeeper.specs.declared.stamp.Announced.{Announced}
use Rattle.irig_timekeeper.specs.declared.stamp.Stamp.{Stamp}
use Rattle.irig_timekeeper.specs.declared.clock.Beat.{Beat}
use Rattle.irig_lines.specs.declared.setup.ClockRules.{ClockRules}
use Rattle.irig_timekeeper.specs.declared.clock.ClockState.{ClockState}
use Rattle.irig_lines.specs.Edges.{IsQuartz, IsNear}
use Rattle.irig_lines.specs.Exactness.{most_drift_us, most_held_us, most_vote_us}
use Rattle.irig_lines.specs.Counting.{edges_between, edges_to_vote, edges_own}
use Rattle.irig_lines.specs.Steps.{agreed, if_come, is_pulse, settled}
use Rattle.irig_timekeeper.specs.Clock.{lasted, announced_at, still_serves, step_to, beat_by, after_vote, answer_to_vote, after_own, answer_alone, own_edge, clock_by, answer_by, settled_at}
use Rattle.irig_timekeeper.specs.Stamps.{next_us, stamp_by, first_stamp, stamp_of}
use Rattle.irig_timekeeper.specs.Keeping.{Keeping, vote_at, after_pulse, after_tick, answer_at, stamp_at}
use Rattle.irig_timekeeper.specs.Truth.{IsEdgeAt, IsToldTruly, IsDevice, IsStampedTruly, IsInstant}
use Rattle.irig_timekeeper.specs.Life.{Call, after_calls, last_tick, pulses_on, AreInOrder, AreTrueAtTicks, AreTrueLately}
use Rattle.irig_timekeeper.specs.Life.Call.{Hear, Tick}
use Rattle.irig_timekeeper.proofs.BoundLaws.{answer_bound}
use Rattle.irig_lines.proofs.CountingLaws.{rises}
use Rattle.irig_lines.specs.Paces.{ahead_us, edge_on}
use Rattle.irig_timekeeper.proofs.SoundLaws.{settled_sound}
use Rattle.irig_timekeeper.proofs.TimeLaws.{own_count, own_edge_at, still_edge, voted_count, same_edge, lasts_so}
use Rattle.irig_lines.specs.Steps.{AreNewLines}
use Rattle.irig_timekeeper.specs.Keeping.{new_keeping}
use Rattle.irig_timekeeper.proofs.LifeLaws.{AreLinesAt, StepsIn, TellAlwaysTruly, begins, heard_truly, lines_after, ticks}
use Rattle.irig_lines.proofs.WidthLaws.{reach_few}
use Rattle.irig_lines.proofs.ReachLaws.{ComesBy, IsPut, StoodBy, reach}
use Rattle.irig_timekeeper.proofs.VoteLaws.{vote_is_true}
use Rattle.irig_timekeeper.proofs.OrderLaws.{IsSetByVote, set_before, edge_of, votes_apart, IsPaced, paced_tick, paced_on}
use Rattle.irig_timekeeper.specs.Rule.{against_table}

-- ---- what a tick keeps of the seconds that it told

-- a tick that answers keeps what it told, and the one before at most; any other keeps both
pub record LeavesTold (old new : ClockState) (answer : Option Beat) : Type 0 where
  pub same : answer ≡ None → (new.last ≡ old.last) × (new.before ≡ old.before)
  pub told : (b : Beat) → answer ≡ Some b → (new.last ≡ announced_at b.edge_us b.bound_us b.report.announce) × ((a : Announced) → new.before ≡ Some a → old.last ≡ Some a) × (new.edge_us ≡ Some b.edge_us) × ((u : UtcSecond) → b.report.announce ≡ Some u → new.before ≡ old.last)

served : (vote : Option Claim) (announce : Option UtcSecond) (last : Option Announced) (a : Announced) → still_serves vote announce last ≡ Some a → last ≡ Some a
served None announce last a e = e
served (Some vote) None last a e = absurd cc
served (Some vote) (Some u) last a e = e

serves_on : (vote : Option Claim) (announce : Option UtcSecond) (last : Option Announced) (u : UtcSecond) → announce ≡ Some u → still_serves vote announce last ≡ last
serves_on None announce last u e = refl
serves_on (Some vote) None last u e = absurd cc
serves_on (Some vote) (Some w) last u e = refl

leaves_own : (c : ClockRules) (table : TableValue) (s : ClockState) (n : ℕ) → LeavesTold s (after_own c table s n) (answer_alone c table s n)
leaves_own c table s n = elim (cases_Bool (n == 0)) [
  | inl waits ↦ rw waits (record { same = λ e. (refl, refl); told = λ b e. absurd cc })
  | inr more ↦ rw more (record { same = λ e. absurd cc; told = λ b e. (let beat : beat_by c s false (step_to c table s n None) (n - 1) (own_edge s.pace s.edge_us n) s.bound_us ≡ b = cc in (ap (λ (x : Beat). announced_at x.edge_us x.bound_us x.report.announce) beat, (λ a e. e), ap (λ (x : Beat). Some x.edge_us) beat, (λ u says. refl))) })
]

leaves_voted : (c : ClockRules) (table : TableValue) (s : ClockState) (v : Vote) (n : ℕ) → LeavesTold s (after_vote c table s v n) (answer_to_vote c table s v n)
leaves_voted c table s v n = elim (cases_Bool (n == 0)) [
  | inl waits ↦ rw waits (record { same = λ e. (refl, refl); told = λ b e. absurd cc })
  | inr more ↦ rw more (record { same = λ e. absurd cc; told = λ b e. (let beat : beat_by c s (against_table table (Some v.claim)) (step_to c table s n (Some v.claim)) (n - 1) v.edge_us v.bound_us ≡ b = cc in (ap (λ (x : Beat). announced_at x.edge_us x.bound_us x.report.announce) beat, (λ a e. served (Some v.claim) (step_to c table s n (Some v.claim)).report.announce s.last a e), ap (λ (x : Beat). Some x.edge_us) beat, (λ u says. serves_on (Some v.claim) (step_to c table s n (Some v.claim)).report.announce s.last u (ap (λ (x : Beat). x.report.announce) beat ∙ says)))) })
]

pub leaves_told : (k : Keeping) (clock : ℕ) → LeavesTold k.state (after_tick k clock).state (answer_at k clock)
leaves_told k clock = of (vote_at k clock)
  where
    s : ClockState
    s = settled_at k.clock k.state clock

    of : (o : Option Vote) → LeavesTold k.state (clock_by k.clock k.table s clock o) (answer_by k.clock k.table s clock o)
    of None = let l = leaves_own k.clock k.table s (edges_own s.pace k.state.edge_us clock) in record { same = l.same; told = l.told }
    of (Some v) = let l = leaves_voted k.clock k.table s v (edges_to_vote k.state.edge_us v.edge_us) in record { same = l.same; told = l.told }

-- ---- one that was told truly

pub record IsToldSo (t : TimelineValue) (edges : ℕ → ℕ) (early late d edge : ℕ) (a : Announced) : Type 0 where
  pub m : ℕ
  pub clock : a.edge_us ≡ edge % 2 ^ 32
  pub near : IsNear edges (early + a.bound_us) (late + a.bound_us) m edge
  pub truth : IsSecond t m a.second
  pub small : a.bound_us ≤ most_vote_us + most_held_us

pub kept_second : (edge bound : ℕ) (o : Option UtcSecond) (a : Announced) → announced_at edge bound o ≡ Some a → (u : UtcSecond) × (o ≡ Some u) × (a.second ≡ u) × (a.edge_us ≡ edge) × (a.bound_us ≡ bound)
kept_second edge bound None a e = absurd cc
kept_second edge bound (Some u) a e =
    let same : record { second = u; edge_us = edge; bound_us = bound } ≡ a = cc in
    (u, refl, ap (λ (x : Announced). x.second) (sym same), ap (λ (x : Announced). x.edge_us) (sym same), ap (λ (x : Announced). x.bound_us) (sym same))

told_so : (t : TimelineValue) (edges : ℕ → ℕ) (early late d now : ℕ) (b : Beat) (edge : ℕ) → b.bound_us ≤ most_vote_us + most_held_us
    → ((u : UtcSecond) → b.report.announce ≡ Some u → IsToldTruly t edges (early + b.bound_us) (late + b.bound_us) now b u) → IsEdgeAt b.edge_us edge now → (a : Announced) → announced_at b.edge_us b.bound_us b.report.announce ≡ Some a → IsToldSo t edges early late d edge a
told_so t edges early late d now b edge small told at a e =
    let kept = kept_second b.edge_us b.bound_us b.report.announce a e in
    let is = told kept.0 kept.1 in
    let same : is.edge ≡ edge = same_edge b.edge_us is.edge edge now (record { clock = is.clock; come = is.come; soon = is.soon }) at in
    record {
      m = is.m;
      clock = kept.3 ∙ at.clock;
      near = record { least = omega (arith, is.near.least, same, kept.4); most = omega (arith, is.near.most, same, kept.4) };
      truth = subst (IsSecond t is.m) (sym kept.2) is.truth;
      small = omega (arith, kept.4, small);
    }

-- ---- the last edge is the one that was told last, or lines have set it right since, once

module _ (new : Keeping) (start : ℕ) (begun : AreLinesAt new new (λ i. []) start start) (Put : ℕ → Type 0) where
  abbrev pub FreshBy : ℕ → List Call → ℕ → Type 0
  FreshBy A calls x = (x ≡ A) ⊎ ((A ≤ x + 103000) × (x < A + 500000) × IsSetByVote new start begun x calls × Put x)

  -- the edge of a vote is put there
  abbrev pub PutsVotes : List Call → ℕ → Type 0
  PutsVotes calls now = (v : Vote) → vote_at (after_calls new calls) (now % 2 ^ 32) ≡ Some v → (V : ℕ) → IsEdgeAt v.edge_us V now → Put V

  pub record IsFresh (A : ℕ) (calls : List Call) (e : ℕ) : Type 0 where
    pub x : ℕ
    pub at : IsEdgeAt e x (last_tick start calls)
    pub is : FreshBy A calls x

  pub fresh_on : (A : ℕ) (call : Call) (calls : List Call) (x : ℕ) → FreshBy A calls x → FreshBy A (call ∷ calls) x
  fresh_on A call calls x (inl same) = inl same
  fresh_on A call calls x (inr set) = inr (set.0, set.1, set_before new start begun x call calls set.2, set.3)

  pub stood : (A : ℕ) (calls : List Call) (x : ℕ) → FreshBy A calls x → StoodBy Put A x
  stood A calls x (inl same) = inl same
  stood A calls x (inr set) = inr (set.0, set.1, set.3)

  paced_of : (A : ℕ) (calls : List Call) (e : ℕ) → IsFresh A calls e → IsPaced new start begun A calls (Some e)
  paced_of A calls e fresh = (fresh.x, fresh.at, elim fresh.is [ inl same ↦ inl (omega (arith, same)) | inr set ↦ inr (set.0, set.2) ])

  -- a tick that tells nothing
  pub record StaysFresh (A : ℕ) (calls : List Call) (o : Option ℕ) : Type 0 where
    pub e : ℕ
    pub edge : o ≡ Some e
    pub fresh : IsFresh A calls e

  module _ (A : ℕ) (calls : List Call) (now : ℕ) (order : AreInOrder start new.clock.redundancy (Tick now ∷ calls)) (puts : PutsVotes calls now) (e : ℕ) (f : IsFresh A calls e) where
    abbrev k : Keeping
    k = after_calls new calls

    abbrev s : ClockState
    s = record (settled_at k.clock k.state (now % 2 ^ 32)) { edge_us = Some e }

    ordered : last_tick start calls ≤ now
    ordered = order.0

    soon : now ≤ last_tick start calls + 1800000000
    soon = omega (arith, order.1)

    fresh_own : (n : ℕ) → n ≡ edges_own s.pace (Some e) (now % 2 ^ 32) → answer_alone k.clock k.table s n ≡ None → StaysFresh A (Tick now ∷ calls) (after_own k.clock k.table s n).edge_us
    fresh_own n same none = elim (cases_Bool (n == 0)) [
      | inl waits ↦
          let zero : n ≡ 0 = eqb-true n 0 waits in
          let count = same ∙ own_count (last_tick start calls) now ordered soon e f.x f.at s.pace in
          rw waits (record { e = e; edge = refl; fresh = record { x = f.x; at = still_edge (last_tick start calls) now ordered soon e f.x f.at s.pace (sym count ∙ zero); is = fresh_on A (Tick now) calls f.x f.is } })
      | inr more ↦ let both : Some (beat_by k.clock s false (step_to k.clock k.table s n None) (n - 1) (own_edge s.pace (Some e) n) s.bound_us) ≡ None = rw more at none in absurd cc
    ]

    fresh_voted : (v : Vote) → vote_at k (now % 2 ^ 32) ≡ Some v → (n : ℕ) → n ≡ edges_to_vote (Some e) v.edge_us → answer_to_vote k.clock k.table s v n ≡ None → StaysFresh A (Tick now ∷ calls) (after_vote k.clock k.table s v n).edge_us
    fresh_voted v voted n same none = elim (cases_Bool (n == 0)) [
      | inl waits ↦
          let zero : n ≡ 0 = eqb-true n 0 waits in
          let V = edge_of new start begun calls now order v voted in
          let count : n ≡ edges_between f.x V.0 = same ∙ voted_count (last_tick start calls) now ordered soon e f.x f.at v.edge_us V.0 V.1 V.2 in
          let set : IsSetByVote new start begun V.0 (Tick now ∷ calls) = record { earlier = calls; later = []; before = now; v = v; are = refl; voted = voted; at = V.1 } in
          let is : FreshBy A (Tick now ∷ calls) V.0 = elim f.is [
            | inl here ↦ inr (omega (arith, here, f.at.come, ordered, V.2), omega (arith, here, count, zero), set, puts v voted V.0 V.1)
            | inr old ↦ absurd (omega (arith, count, zero, behind v voted V.0 V.1 old.2))
          ] in
          rw waits (record { e = v.edge_us; edge = refl; fresh = record { x = V.0; at = V.1; is = is } })
      | inr more ↦ let both : Some (beat_by k.clock s (against_table k.table (Some v.claim)) (step_to k.clock k.table s n (Some v.claim)) (n - 1) v.edge_us v.bound_us) ≡ None = rw more at none in absurd cc
    ]
      where
        behind : (v : Vote) → vote_at k (now % 2 ^ 32) ≡ Some v → (V : ℕ) → IsEdgeAt v.edge_us V now → (set : IsSetByVote new start begun f.x calls) → f.x + 885000 ≤ V
        behind v voted V at set =
            votes_apart new start begun set.earlier set.later set.before now set.v v f.x V
            (subst (λ (c : List Call). AreInOrder start new.clock.redundancy (Tick now ∷ c)) set.are order) set.voted set.at
            (subst (λ (c : List Call). vote_at (after_calls new c) (now % 2 ^ 32) ≡ Some v) set.are voted) at

    pub fresh_tick : k.state.edge_us ≡ Some e → answer_at k (now % 2 ^ 32) ≡ None → StaysFresh A (Tick now ∷ calls) (after_tick k (now % 2 ^ 32)).state.edge_us
    fresh_tick edge none = of (vote_at k (now % 2 ^ 32)) refl (settled_at k.clock k.state (now % 2 ^ 32)) same none
      where
        same : settled_at k.clock k.state (now % 2 ^ 32) ≡ s
        same = ap (λ (o : Option ℕ). record (settled_at k.clock k.state (now % 2 ^ 32)) { edge_us = o }) edge

        of : (o : Option Vote) → vote_at k (now % 2 ^ 32) ≡ o → (x : ClockState) → x ≡ s → answer_by k.clock k.table x (now % 2 ^ 32) o ≡ None → StaysFresh A (Tick now ∷ calls) (clock_by k.clock k.table x (now % 2 ^ 32) o).edge_us
        of None e x is none = subst (λ (y : ClockState). answer_by k.clock k.table y (now % 2 ^ 32) None ≡ None → StaysFresh A (Tick now ∷ calls) (clock_by k.clock k.table y (now % 2 ^ 32) None).edge_us) (sym is) (fresh_own _ refl) none
        of (Some v) e x is none = subst (λ (y : ClockState). answer_by k.clock k.table y (now % 2 ^ 32) (Some v) ≡ None → StaysFresh A (Tick now ∷ calls) (clock_by k.clock k.table y (now % 2 ^ 32) (Some v)).edge_us) (sym is) (fresh_voted v e _ refl) none

    -- and one that tells an edge
    next_own : (n : ℕ) → n ≡ edges_own s.pace (Some e) (now % 2 ^ 32) → (b : Beat) (B : ℕ) → IsEdgeAt b.edge_us B now → answer_alone k.clock k.table s n ≡ Some b → ComesBy Put b.missed f.x B
    next_own n same b B at answer = elim (cases_Bool (n == 0)) [
      | inl waits ↦ let both : None ≡ Some b = rw waits at answer in absurd cc
      | inr more ↦
          let both : Some (beat_by k.clock s false (step_to k.clock k.table s n None) (n - 1) (own_edge s.pace (Some e) n) s.bound_us) ≡ Some b = rw more at answer in
          let beat : beat_by k.clock s false (step_to k.clock k.table s n None) (n - 1) (own_edge s.pace (Some e) n) s.bound_us ≡ b = cc in
          let some : 1 ≤ n = omega (arith, eqb-false n 0 more) in
          let count = same ∙ own_count (last_tick start calls) now ordered soon e f.x f.at s.pace in
          let sound = settled_sound k (lines_after new start begun calls now order).sound (now % 2 ^ 32) in
          let then = own_edge_at (last_tick start calls) now ordered soon e f.x f.at s.pace sound n count some in
          let long = lasts_so s.pace sound n in
          let edge : edge_on s.pace e n ≡ b.edge_us = ap (λ (x : Beat). x.edge_us) beat in
          let here = same_edge b.edge_us (f.x + ahead_us s.pace n) B now (subst (λ (y : ℕ). IsEdgeAt y (f.x + ahead_us s.pace n) now) edge then) at in
          let missed : n - 1 ≡ b.missed = ap (λ (x : Beat). x.missed) beat in
          inl (omega (arith, here, missed, some, long.least), omega (arith, here, missed, some, long.most))
    ]

    next_voted : (v : Vote) → vote_at k (now % 2 ^ 32) ≡ Some v → (n : ℕ) → n ≡ edges_to_vote (Some e) v.edge_us → (b : Beat) (B : ℕ) → IsEdgeAt b.edge_us B now → answer_to_vote k.clock k.table s v n ≡ Some b → ComesBy Put b.missed f.x B
    next_voted v voted n same b B at answer = elim (cases_Bool (n == 0)) [
      | inl waits ↦ let both : None ≡ Some b = rw waits at answer in absurd cc
      | inr more ↦
          let both : Some (beat_by k.clock s (against_table k.table (Some v.claim)) (step_to k.clock k.table s n (Some v.claim)) (n - 1) v.edge_us v.bound_us) ≡ Some b = rw more at answer in
          let beat : beat_by k.clock s (against_table k.table (Some v.claim)) (step_to k.clock k.table s n (Some v.claim)) (n - 1) v.edge_us v.bound_us ≡ b = cc in
          let some : 1 ≤ n = omega (arith, eqb-false n 0 more) in
          let V = edge_of new start begun calls now order v voted in
          let edge : v.edge_us ≡ b.edge_us = ap (λ (x : Beat). x.edge_us) beat in
          let there : IsEdgeAt v.edge_us B now = subst (λ (y : ℕ). IsEdgeAt y B now) (sym edge) at in
          let here : V.0 ≡ B = same_edge v.edge_us V.0 B now V.1 there in
          let count : n ≡ edges_between f.x B = same ∙ voted_count (last_tick start calls) now ordered soon e f.x f.at v.edge_us B there (omega (arith, here, V.2)) in
          let missed : n - 1 ≡ b.missed = ap (λ (x : Beat). x.missed) beat in
          let counts : b.missed + 1 ≡ n = omega (arith, missed, some) in
          inr (counts ∙ count, puts v voted B there)
    ]

    pub next_edge : k.state.edge_us ≡ Some e → (b : Beat) → answer_at k (now % 2 ^ 32) ≡ Some b → (B : ℕ) → IsEdgeAt b.edge_us B now → ComesBy Put b.missed f.x B
    next_edge edge b answer B at = of (vote_at k (now % 2 ^ 32)) refl (settled_at k.clock k.state (now % 2 ^ 32)) same answer
      where
        same : settled_at k.clock k.state (now % 2 ^ 32) ≡ s
        same = ap (λ (o : Option ℕ). record (settled_at k.clock k.state (now % 2 ^ 32)) { edge_us = o }) edge

        of : (o : Option Vote) → vote_at k (now % 2 ^ 32) ≡ o → (x : ClockState) → x ≡ s → answer_by k.clock k.table x (now % 2 ^ 32) o ≡ Some b → ComesBy Put b.missed f.x B
        of None e x is answer = next_own _ refl b B at (subst (λ (y : ClockState). answer_by k.clock k.table y (now % 2 ^ 32) None ≡ Some b) is answer)
        of (Some v) e x is answer = next_voted v e _ refl b B at (subst (λ (y : ClockState). answer_by k.clock k.table y (now % 2 ^ 32) (Some v) ≡ Some b) is answer)

-- a pulse changes none of this
pub stays_behind : (k : Keeping) (port rise width : ℕ) → ((after_pulse k port rise width).state.last ≡ k.state.last) × ((after_pulse k port rise width).state.before ≡ k.state.before) × ((after_pulse k port rise width).state.edge_us ≡ k.state.edge_us)
stays_behind k port rise width = elim (cases_Bool (is_pulse width)) [ inl narrow ↦ rw narrow (refl, refl, refl) | inr wide ↦ rw wide (refl, refl, refl) ]

-- without a vote no first edge comes
none_stays : (k : Keeping) (clock : ℕ) → k.state.edge_us ≡ None → answer_at k clock ≡ None → (after_tick k clock).state.edge_us ≡ None
none_stays k clock edge none = of (vote_at k clock) (settled_at k.clock k.state clock) edge none
  where
    of : (o : Option Vote) (s : ClockState) → s.edge_us ≡ None → answer_by k.clock k.table s clock o ≡ None → (clock_by k.clock k.table s clock o).edge_us ≡ None
    of None s edge none = own (s.edge_us) edge
      where
        own : (o : Option ℕ) → o ≡ None → (after_own k.clock k.table s (edges_own s.pace o clock)).edge_us ≡ None
        own None e = edge
        own (Some x) e = absurd cc
    of (Some v) s edge none = first s.edge_us edge none
      where
        first : (o : Option ℕ) → o ≡ None → answer_to_vote k.clock k.table s v (edges_to_vote o v.edge_us) ≡ None → (after_vote k.clock k.table s v (edges_to_vote o v.edge_us)).edge_us ≡ None
        first None e none = absurd cc
        first (Some x) e none = absurd cc

-- ---- a life

-- by a clock of 32 bits, and less than half a second off
pub record IsToldAnyhow (edge : ℕ) (a : Announced) : Type 0 where
  pub clock : a.edge_us ≡ edge % 2 ^ 32
  pub small : a.bound_us ≤ most_vote_us + most_held_us

abbrev pub AnyEdge : ℕ → Type 0
AnyEdge edge = Unit {0}

-- what was told so before the last edge, half a second to half an hour
pub record IsToldBefore (Put : ℕ → Type 0) (Told : ℕ → Announced → Type 0) (A : ℕ) (a : Announced) : Type 0 where
  pub edge : ℕ
  pub told : Told edge a
  pub order : edge + 500000 ≤ A
  pub soon : A < edge + 1802000000
  pub x : ℕ
  pub stood : StoodBy Put edge x
  pub missed : ℕ
  pub comes : ComesBy Put missed x A

module _ (rules : Rules) (clock : ClockRules) (table : TableValue) (lines : Lines) (start : ℕ) (new_lines : AreNewLines lines) where
  abbrev pub new : Keeping
  new = new_keeping rules clock table lines

  pub begun : AreLinesAt new new (λ i. []) start start
  begun = begins rules clock table lines start new_lines

  abbrev pub state : List Call → ClockState
  state calls = (after_calls new calls).state

  -- the last second was told so at the edge A, and the one before it so, beside the last
  pub record AreStamps (Put : ℕ → Type 0) (Told : ℕ → Announced → Type 0) (Before : Option Announced → ℕ → Announced → Type 0) (calls : List Call) (e : ℕ) : Type 0 where
    pub A : ℕ
    pub fresh : IsFresh new start begun Put A calls e
    pub some : 1 ≤ A
    pub last : (a : Announced) → (state calls).last ≡ Some a → Told A a
    pub before : (a : Announced) → (state calls).before ≡ Some a → Before (state calls).last A a

  pub IfStamps : (ℕ → Type 0) → (ℕ → Announced → Type 0) → (Option Announced → ℕ → Announced → Type 0) → List Call → Option ℕ → Type 0
  IfStamps Put Told Before calls None = ((state calls).last ≡ None) × ((state calls).before ≡ None)
  IfStamps Put Told Before calls (Some e) = AreStamps Put Told Before calls e

  -- what a tick tells is told so
  abbrev pub TellsSo : (ℕ → Announced → Type 0) → List Call → ℕ → Type 0
  TellsSo Told calls now =
      (b : Beat) → answer_at (after_calls new calls) (now % 2 ^ 32) ≡ Some b → (edge : ℕ) → IsEdgeAt b.edge_us edge now → (a : Announced) → announced_at b.edge_us b.bound_us b.report.announce ≡ Some a → Told edge a

  abbrev pub TellSo : (ℕ → Type 0) → (ℕ → Announced → Type 0) → List Call → List Call → Type 0
  TellSo Put Told [] base = Unit {0}
  TellSo Put Told (Hear port rise width ∷ later) base = TellSo Put Told later base
  TellSo Put Told (Tick now ∷ later) base = TellsSo Told (later ++ base) now × PutsVotes new start begun Put (later ++ base) now × TellSo Put Told later base

  -- a pulse
  abbrev ClockStays : ℕ → ℕ → ℕ → List Call → Type 0
  ClockStays port rise width calls =
      ((state (Hear port rise width ∷ calls)).last ≡ (state calls).last) × ((state (Hear port rise width ∷ calls)).before ≡ (state calls).before) × ((state (Hear port rise width ∷ calls)).edge_us ≡ (state calls).edge_us)

  clock_stays : (port rise width : ℕ) (calls : List Call) → ClockStays port rise width calls
  clock_stays port rise width calls = stays_behind (after_calls new calls) port (rise % 2 ^ 32) width

  module _ (Put : ℕ → Type 0) (Told : ℕ → Announced → Type 0) (Before : Option Announced → ℕ → Announced → Type 0) where
    hears_stamps : (port rise width : ℕ) (calls : List Call) → ClockStays port rise width calls → (o : Option ℕ) → IfStamps Put Told Before calls o → IfStamps Put Told Before (Hear port rise width ∷ calls) o
    unfolding IfStamps
    hears_stamps port rise width calls stays None h = (stays.0 ∙ h.0, stays.1 ∙ h.1)
    hears_stamps port rise width calls stays (Some e) h = record {
      A = h.A;
      fresh = record { x = h.fresh.x; at = h.fresh.at; is = fresh_on new start begun Put h.A (Hear port rise width) calls h.fresh.x h.fresh.is };
      some = h.some;
      last = λ a e. h.last a (sym stays.0 ∙ e);
      before = λ a e. subst (λ (o : Option Announced). Before o h.A a) (sym stays.0) (h.before a (sym stays.1 ∙ e));
    }

    module _ (calls : List Call) (now : ℕ) (order : AreInOrder start clock.redundancy (Tick now ∷ calls)) where
      abbrev keeper : Keeping
      keeper = after_calls new calls

      abbrev answer : Option Beat
      answer = answer_at keeper (now % 2 ^ 32)

      leaves : LeavesTold keeper.state (state (Tick now ∷ calls)) answer
      leaves = leaves_told keeper (now % 2 ^ 32)

      -- that tells an edge; what was told before was told otherwise
      module _ (WasPut : ℕ → Type 0) (puts : PutsVotes new start begun WasPut calls now) (Was : ℕ → Announced → Type 0) (Earlier : Option Announced → ℕ → Announced → Type 0) (b : Beat) (answers : answer ≡ Some b) (tells : TellsSo Told calls now)
          (turns : (edge : ℕ) → IsEdgeAt b.edge_us edge now → (a : Announced) → (state (Tick now ∷ calls)).before ≡ Some a → IsToldBefore WasPut Was edge a → Before (state (Tick now ∷ calls)).last edge a) where
        told_stamps : (edge : ℕ) → IsEdgeAt b.edge_us edge now → 1 ≤ edge → ((a : Announced) → (state calls).last ≡ Some a → IsToldBefore WasPut Was edge a) → AreStamps Put Told Before (Tick now ∷ calls) b.edge_us
        told_stamps edge at some before =
            let left = leaves.told b answers in
            record {
              A = edge;
              fresh = record { x = edge; at = at; is = inl refl };
              some = some;
              last = λ a e. tells b answers edge at a (sym left.0 ∙ e);
              before = λ a e. turns edge at a e (before a (left.1 a e));
            }

        first_stamps : (o : Option ℕ) → keeper.state.edge_us ≡ o → IfStamps WasPut Was Earlier calls o → (paced : IsPaced new start begun 0 calls keeper.state.edge_us) → AreStamps Put Told Before (Tick now ∷ calls) b.edge_us
        unfolding IfStamps
        first_stamps None edge h paced =
            let told = (paced_tick new start begun 0 calls now order paced).told b answers in
            told_stamps told.edge told.at told.some (λ a says. absurd (let both : None ≡ Some a = sym h.0 ∙ says in cc))
        first_stamps (Some x) edge h paced =
            let known : IsPaced new start begun h.A calls keeper.state.edge_us = subst (IsPaced new start begun h.A calls) (sym edge) (paced_of new start begun WasPut h.A calls x h.fresh) in
            let told = (paced_tick new start begun h.A calls now order known).told b answers in
            let reach : h.fresh.x < h.A + 500000 = elim h.fresh.is [ inl same ↦ omega (arith, same) | inr set ↦ set.1 ] in
            let later : h.A + 500000 ≤ told.edge = elim told.later [ inl none ↦ absurd (omega (arith, none, h.some)) | inr far ↦ far ] in
            told_stamps told.edge told.at told.some
            (λ a says. record { edge = h.A; told = h.last a says; order = later; soon = omega (arith, told.at.come, order.1, h.fresh.at.soon, reach); x = h.fresh.x; stood = stood new start begun WasPut h.A calls h.fresh.x h.fresh.is; missed = b.missed; comes = next_edge new start begun WasPut h.A calls now order puts x h.fresh edge b answers told.edge told.at })

        pub beat_stamps : IfStamps WasPut Was Earlier calls keeper.state.edge_us → IfStamps Put Told Before (Tick now ∷ calls) (state (Tick now ∷ calls)).edge_us
        unfolding IfStamps
        beat_stamps before =
            let left = leaves.told b answers in
            let none : calls ++ [] ≡ calls = append-nil calls in
            let from_new = paced_on new start begun 0 [] refl calls (subst (AreInOrder start clock.redundancy) (sym none) order.3) in
            let paced = subst (λ (x : List Call). IsPaced new start begun 0 x (after_calls new x).state.edge_us) none from_new in
            subst (IfStamps Put Told Before (Tick now ∷ calls)) (sym left.2) (first_stamps keeper.state.edge_us refl before paced)

      quiet_stamps : PutsVotes new start begun Put calls now → (o : Option ℕ) → keeper.state.edge_us ≡ o → IfStamps Put Told Before calls o → answer ≡ None → IfStamps Put Told Before (Tick now ∷ calls) (state (Tick now ∷ calls)).edge_us
      unfolding IfStamps
      quiet_stamps puts None edge h none =
          let same = leaves.same none in
          subst (IfStamps Put Told Before (Tick now ∷ calls)) (sym (none_stays keeper (now % 2 ^ 32) edge none)) (same.0 ∙ h.0, same.1 ∙ h.1)
      quiet_stamps puts (Some x) edge h none =
          let stays = fresh_tick new start begun Put h.A calls now order puts x h.fresh edge none in
          let same = leaves.same none in
          subst (IfStamps Put Told Before (Tick now ∷ calls)) (sym stays.edge) (record {
            A = h.A;
            fresh = stays.fresh;
            some = h.some;
            last = λ a e. h.last a (sym same.0 ∙ e);
            before = λ a e. subst (λ (o : Option Announced). Before o h.A a) (sym same.0) (h.before a (sym same.1 ∙ e));
          })

    module _ (turns : (last : Option Announced) (edge : ℕ) (a : Announced) → IsToldBefore Put Told edge a → Before last edge a) where
      ticked_stamps : (calls : List Call) (now : ℕ) → AreInOrder start clock.redundancy (Tick now ∷ calls) → TellsSo Told calls now → PutsVotes new start begun Put calls now → IfStamps Put Told Before calls (state calls).edge_us → IfStamps Put Told Before (Tick now ∷ calls) (state (Tick now ∷ calls)).edge_us
      ticked_stamps calls now order tells puts before = of (answer_at (after_calls new calls) (now % 2 ^ 32)) refl
        where
          of : (o : Option Beat) → answer_at (after_calls new calls) (now % 2 ^ 32) ≡ o → IfStamps Put Told Before (Tick now ∷ calls) (state (Tick now ∷ calls)).edge_us
          of None none = quiet_stamps calls now order puts (state calls).edge_us refl before none
          of (Some b) e = beat_stamps calls now order Put puts Told Before b e tells (λ edge at a says told. turns (state (Tick now ∷ calls)).last edge a told) before

      -- so it stands behind more calls
      pub stamps_on : (base : List Call) → IfStamps Put Told Before base (state base).edge_us → (later : List Call) → AreInOrder start clock.redundancy (later ++ base) → TellSo Put Told later base → IfStamps Put Told Before (later ++ base) (state (later ++ base)).edge_us
      stamps_on base before [] order tell = before
      stamps_on base before (Hear port rise width ∷ later) order tell =
          let stays = clock_stays port rise width (later ++ base) in
          subst (IfStamps Put Told Before (Hear port rise width ∷ (later ++ base))) (sym stays.2) (hears_stamps port rise width (later ++ base) stays (state (later ++ base)).edge_us (stamps_on base before later order.2 tell))
      stamps_on base before (Tick now ∷ later) order tell = ticked_stamps (later ++ base) now order tell.0 tell.1 (stamps_on base before later order.3 tell.2)

      pub stamps : (calls : List Call) → AreInOrder start clock.redundancy calls → TellSo Put Told calls [] → IfStamps Put Told Before calls (state calls).edge_us
      unfolding IfStamps
      stamps calls order tell =
          let none : calls ++ [] ≡ calls = append-nil calls in
          let nothing : IfStamps Put Told Before [] None = nothing_yet in
          subst (λ (x : List Call). IfStamps Put Told Before x (state x).edge_us) none (stamps_on [] nothing calls (subst (AreInOrder start clock.redundancy) (sym none) order) tell)
        where
          nothing_yet : IfStamps Put Told Before [] None
          nothing_yet = (refl, refl)

  -- ---- what is told

  -- its bound is no more than a vote's and what comes of the longest holdover
  pub small_bound : (t : TimelineValue) (edges : ℕ → ℕ) → IsDevice t clock.drift_us edges clock.reader_rules table → (calls : List Call) (now : ℕ) (b : Beat) → answer_at (after_calls new calls) (now % 2 ^ 32) ≡ Some b → b.bound_us ≤ most_vote_us + most_held_us
  small_bound t edges is calls now b e =
      let has = answer_bound new (omega arith) calls (now % 2 ^ 32) in
      omega (arith, has.small b e, is.steady.few, reach_few clock)

  -- whatever lines carry
  pub tells_anyhow : (t : TimelineValue) (edges : ℕ → ℕ) → IsDevice t clock.drift_us edges clock.reader_rules table → (calls : List Call) (now : ℕ) → TellsSo IsToldAnyhow calls now
  tells_anyhow t edges is calls now b e edge at a says =
      let kept = kept_second b.edge_us b.bound_us b.report.announce a says in
      record { clock = kept.3 ∙ at.clock; small = omega (arith, kept.4, small_bound t edges is calls now b e) }

  pub tell_anyhow : (t : TimelineValue) (edges : ℕ → ℕ) → IsDevice t clock.drift_us edges clock.reader_rules table → (calls : List Call) → TellSo AnyEdge IsToldAnyhow calls []
  tell_anyhow t edges is [] = tt
  tell_anyhow t edges is (Hear port rise width ∷ calls) = tell_anyhow t edges is calls
  tell_anyhow t edges is (Tick now ∷ calls) =
      let none : calls ≡ calls ++ [] = sym (append-nil calls) in
      (subst (λ (x : List Call). TellsSo IsToldAnyhow x now) none (tells_anyhow t edges is calls now), λ v e V at. tt, tell_anyhow t edges is calls)

-- ---- the rule

-- a second stamps an event that lies no further behind its edge than that, or than the next one
pub record IsServed (a : Announced) (next time : ℕ) (stamp : Stamp) : Type 0 where
  pub near : (clock_gap a.edge_us time ≤ 1000000 + a.bound_us) ⊎ ((clock_gap a.edge_us time < next) × (next < 1500000))
  pub same : record { second = a.second; offset_us = clock_gap a.edge_us time; bound_us = a.bound_us } ≡ stamp

module _ (a : Announced) (next time : ℕ) where
  gap : ℕ
  gap = clock_gap a.edge_us time

  abbrev names : Stamp
  names = record { second = a.second; offset_us = clock_gap a.edge_us time; bound_us = a.bound_us }

  pub served_by : (stamp : Stamp) → stamp_by (Some a) next time ≡ Some stamp → IsServed a next time stamp
  served_by stamp = of (nat_le (clock_gap a.edge_us time) (1000000 + a.bound_us)) (nat_lt (clock_gap a.edge_us time) next) (nat_lt next 1500000) refl refl refl
    where
      of : (low before few : Bool) → nat_le (clock_gap a.edge_us time) (1000000 + a.bound_us) ≡ low → nat_lt (clock_gap a.edge_us time) next ≡ before → nat_lt next 1500000 ≡ few
          → cond (low || (before && few)) (Some names) None ≡ Some stamp → IsServed a next time stamp
      of true before few is less short e = record { near = inl (leb-true (clock_gap a.edge_us time) (1000000 + a.bound_us) is); same = cc }
      of false true true is less short e = record { near = inr (ltb-true (clock_gap a.edge_us time) next less, ltb-true next 1500000 short); same = cc }
      of false true false is less short e = absurd cc
      of false false few is less short e = absurd cc

  pub not_served : stamp_by (Some a) next time ≡ None → 1000000 + a.bound_us < clock_gap a.edge_us time
  not_served = of (nat_le (clock_gap a.edge_us time) (1000000 + a.bound_us)) (nat_lt (clock_gap a.edge_us time) next && nat_lt next 1500000) refl
    where
      of : (low rest : Bool) → nat_le (clock_gap a.edge_us time) (1000000 + a.bound_us) ≡ low → cond (low || rest) (Some names) None ≡ None → 1000000 + a.bound_us < clock_gap a.edge_us time
      of true rest is e = absurd cc
      of false rest is e = leb-false (clock_gap a.edge_us time) (1000000 + a.bound_us) is

-- ---- a device

module _ (rules : Rules) (clock : ClockRules) (table : TableValue) (lines : Lines) (start : ℕ) (new_lines : AreNewLines lines) (t : TimelineValue) (edges : ℕ → ℕ) (early late : ℕ)
    (is : IsDevice t clock.drift_us edges clock.reader_rules table) where
  abbrev pub from : Keeping
  from = new_keeping rules clock table lines

  abbrev pub Told : ℕ → Announced → Type 0
  Told edge a = IsToldSo t edges early late clock.drift_us edge a

  abbrev pub Put : ℕ → Type 0
  Put = IsPut edges early late

  -- truly
  pub tells_truly : (calls : List Call) (now : ℕ)
      → ((b : Beat) (u : UtcSecond) → answer_at (after_calls from calls) (now % 2 ^ 32) ≡ Some b → b.report.announce ≡ Some u → IsToldTruly t edges (early + b.bound_us) (late + b.bound_us) now b u)
      → TellsSo rules clock table lines start new_lines Told calls now
  tells_truly calls now told b e edge at =
      told_so t edges early late clock.drift_us now b edge (small_bound rules clock table lines start new_lines t edges is calls now b e) (λ u says. told b u e says) at

  module _ (IsTrue : ℕ → List Pulse → Type 0) (room : early + late ≤ 3002) (truly : TellAlwaysTruly IsTrue clock rules t edges early late) where
    pub puts_truly : (calls : List Call) (now : ℕ) → AreInOrder start clock.redundancy (Tick now ∷ calls) → AreTrueLately IsTrue (f_of clock.redundancy) now calls
        → PutsVotes from start (begun rules clock table lines start new_lines) Put calls now
    puts_truly calls now order lately v voted V at =
        let begins = begun rules clock table lines start new_lines in
        let l = lines_after from start begins calls now order in
        let k : Keeping = after_calls from calls in
        let h = heard_truly IsTrue t edges early late from start begins calls now order lately in
        let vote = vote_is_true (IsTrue now) rules t clock edges is.steady early late room now k.state.lines (λ i. pulses_on i calls) (truly now) h v
        (ap (λ (c : ClockRules). if_come (now % 2 ^ 32) (agreed c (settled (now % 2 ^ 32) k.state.lines))) (sym l.same.clock) ∙ voted) in
        let same = same_edge v.edge_us vote.edge V now (record { clock = vote.clock; come = vote.come; soon = omega (arith, vote.soon) }) at in
        record { m = vote.truth.second + 1; near = record { least = omega (arith, same, vote.truth.near.least, vote.small); most = omega (arith, same, vote.truth.near.most, vote.small) } }

  -- ---- a stamp

  abbrev pub state_at : List Call → ClockState
  state_at calls = (after_calls from calls).state

  module _ (more : ℕ) (low : early ≤ more) (high : late ≤ more) (calls : List Call) (time now : ℕ) (ahead : last_tick start calls ≤ now) (soon : now < last_tick start calls + 1800000000) (past : time ≤ now) (young : now ≤ time + 1800000000) where
    pub by_told : (edge : ℕ) → (a : Announced) → Told edge a → edge ≤ last_tick start calls + 103000 → last_tick start calls < edge + 1804000000 → (next : ℕ)
        → (1 ≤ next → next < 1500000 → next ≤ 1000000 + a.bound_us + most_vote_us + most_drift_us + 2 * more) → (stamp : Stamp) → stamp_by (Some a) next (time % 2 ^ 32) ≡ Some stamp → IsStampedTruly t edges more time stamp
    by_told edge a told come near next reach stamp e =
        let serves = served_by a next (time % 2 ^ 32) stamp e in
        let few : clock_gap a.edge_us (time % 2 ^ 32) ≤ 1000000 + a.bound_us + most_vote_us + most_drift_us + 2 * more = elim serves.near [
          | inl upto ↦ omega (arith, upto)
          | inr before ↦ omega (arith, before.0, reach (omega (arith, before.0)) before.1)
        ] in
        let small : clock_gap a.edge_us (time % 2 ^ 32) < 1500000 = elim serves.near [ inl upto ↦ omega (arith, upto, told.small) | inr before ↦ omega (arith, before.0, before.1) ] in
        let there = gap_is a.edge_us edge time told.clock (omega (arith, come, ahead, young)) (omega (arith, past, soon, near)) small in
        subst (IsStampedTruly t edges more time) serves.same
        (record { m = told.m; truth = told.truth; early = omega (arith, there, told.near.least, low); late = omega (arith, there, told.near.most, high); small = omega (arith, told.small); behind = few })
      where
        gap_is : (x edge time : ℕ) → x ≡ edge % 2 ^ 32 → edge ≤ time + 1800103000 → time < edge + 3604000000 → clock_gap x (time % 2 ^ 32) < 1500000 → edge + clock_gap x (time % 2 ^ 32) ≡ time
        gap_is x edge time is come near few = omega (arith, is, come, near, few)

    pub nothing_told : (o : Option Announced) → o ≡ None → (next : ℕ) (stamp : Stamp) → ¬ (stamp_by o next (time % 2 ^ 32) ≡ Some stamp)
    nothing_told None e next stamp says = cc
    nothing_told (Some a) e next stamp says = absurd cc

    pub first_of : (x y : Option Stamp) (stamp : Stamp) → first_stamp x y ≡ Some stamp → (x ≡ Some stamp) ⊎ ((x ≡ None) × (y ≡ Some stamp))
    first_of (Some x) y stamp e = inl e
    first_of None y stamp e = inr (refl, e)

    pub told_by : (o : Option Announced) (next : ℕ) (stamp : Stamp) → stamp_by o next (time % 2 ^ 32) ≡ Some stamp → (a : Announced) × (o ≡ Some a)
    told_by None next stamp e = absurd cc
    told_by (Some a) next stamp e = (a, refl)

    -- by the last one, or by the one before beside it
    pub stamped_by : (Before : Option Announced → ℕ → Announced → Type 0)
        → ((A : ℕ) (a : Announced) → A ≤ last_tick start calls + 103000 → last_tick start calls < A + 1509000 → ((x : Announced) → (state_at calls).last ≡ Some x → Told A x) → Before (state_at calls).last A a → (stamp : Stamp)
        → stamp_by (state_at calls).last 0 (time % 2 ^ 32) ≡ None → stamp_by (Some a) (next_us (state_at calls).last (Some a)) (time % 2 ^ 32) ≡ Some stamp → IsStampedTruly t edges more time stamp)
        → (o : Option ℕ) → IfStamps rules clock table lines start new_lines Put Told Before calls o → (stamp : Stamp) → stamp_of (state_at calls).last (state_at calls).before (time % 2 ^ 32) ≡ Some stamp → IsStampedTruly t edges more time stamp
    unfolding IfStamps
    stamped_by Before serves None h stamp e =
        elim (first_of (stamp_by (state_at calls).last 0 (time % 2 ^ 32)) (stamp_by (state_at calls).before (next_us (state_at calls).last (state_at calls).before) (time % 2 ^ 32)) stamp e) [
          | inl says ↦ absurd (nothing_told (state_at calls).last h.0 0 stamp says)
          | inr says ↦ absurd (nothing_told (state_at calls).before h.1 (next_us (state_at calls).last (state_at calls).before) stamp says.1)
        ]
    stamped_by Before serves (Some x) h stamp e =
        let reach : h.fresh.x < h.A + 500000 = elim h.fresh.is [ inl same ↦ omega (arith, same) | inr set ↦ set.1 ] in
        let back : h.A ≤ h.fresh.x + 103000 = elim h.fresh.is [ inl same ↦ omega (arith, same) | inr set ↦ set.0 ] in
        elim (first_of (stamp_by (state_at calls).last 0 (time % 2 ^ 32)) (stamp_by (state_at calls).before (next_us (state_at calls).last (state_at calls).before) (time % 2 ^ 32)) stamp e) [
          | inl says ↦
              let one = told_by (state_at calls).last 0 stamp says in
              by_told h.A one.0 (h.last one.0 one.1) (omega (arith, back, h.fresh.at.come)) (omega (arith, h.fresh.at.soon, reach)) 0 (λ some. absurd (omega (arith, some))) stamp
              (ap (λ (o : Option Announced). stamp_by o 0 (time % 2 ^ 32)) (sym one.1) ∙ says)
          | inr says ↦
              let one = told_by (state_at calls).before (next_us (state_at calls).last (state_at calls).before) stamp says.1 in
              serves h.A one.0 (omega (arith, back, h.fresh.at.come)) (omega (arith, h.fresh.at.soon, reach)) h.last (h.before one.0 one.1) stamp says.0
              (ap (λ (o : Option Announced). stamp_by o (next_us (state_at calls).last o) (time % 2 ^ 32)) (sym one.1) ∙ says.1)
        ]

    pub by_earlier : (room : early + late ≤ 3002) (A : ℕ) (a : Announced) → A ≤ last_tick start calls + 103000 → last_tick start calls < A + 1509000 → (last : Option Announced) → ((x : Announced) → last ≡ Some x → Told A x) → IsToldBefore Put Told A a → (stamp : Stamp)
        → stamp_by (Some a) (next_us last (Some a)) (time % 2 ^ 32) ≡ Some stamp → IsStampedTruly t edges more time stamp
    by_earlier room A a come near last lasts was stamp e =
        by_told was.edge a was.told (omega (arith, was.order, come)) (omega (arith, near, was.soon)) (next_us last (Some a)) (of last lasts) stamp e
      where
        apart_is : (x y edge : ℕ) → x ≡ edge % 2 ^ 32 → y ≡ A % 2 ^ 32 → edge + 500000 ≤ A → A < edge + 1802000000 → edge + clock_gap x y ≡ A
        apart_is x y edge is there order soon = omega (arith, is, there, order, soon)

        of : (o : Option Announced) → ((x : Announced) → o ≡ Some x → Told A x) → 1 ≤ next_us o (Some a) → next_us o (Some a) < 1500000 → next_us o (Some a) ≤ 1000000 + a.bound_us + most_vote_us + most_drift_us + 2 * more
        of None lasts some few = absurd (omega (arith, some))
        of (Some y) lasts some few =
            let apart = apart_is a.edge_us y.edge_us was.edge was.told.clock (lasts y refl).clock was.order was.soon in
            let near = reach clock.drift_us edges is.steady early late room was.edge a.bound_us was.told.m was.told.near was.told.small was.missed was.x A was.stood was.comes (omega (arith, apart, few)) in
            omega (arith, apart, near, low, high)

  -- ---- a life, true at each tick

  module _ (IsTrue : ℕ → List Pulse → Type 0) (room : early + late ≤ 3002) (truly : TellAlwaysTruly IsTrue clock rules t edges early late) where
    tell_truly : (calls : List Call) → AreInOrder start clock.redundancy calls → AreTrueAtTicks IsTrue (f_of clock.redundancy) calls → StepsIn edges early late (new_keeping rules clock table lines) start calls → TellSo rules clock table lines start new_lines Put Told calls []
    tell_truly [] order truth steps = tt
    tell_truly (Hear port rise width ∷ calls) order truth steps = tell_truly calls order.2 truth steps
    tell_truly (Tick now ∷ calls) order truth steps =
        let none : calls ≡ calls ++ [] = sym (append-nil calls) in (
          subst (λ (x : List Call). TellsSo rules clock table lines start new_lines Told x now) none (tells_truly calls now (λ b u e says. ((ticks rules clock table lines start new_lines IsTrue t edges early late is room truly calls now order truth steps).told b u e says).told)),
          subst (λ (x : List Call). PutsVotes from start (begun rules clock table lines start new_lines) Put x now) none (puts_truly IsTrue room truly calls now order truth.0),
          tell_truly calls order.3 truth.1 steps.1,
        )

module _ (rules : Rules) (clock : ClockRules) (table : TableValue) (lines : Lines) (start : ℕ) (new_lines : AreNewLines lines) (t : TimelineValue) (edges : ℕ → ℕ) (early late more : ℕ)
    (is : IsDevice t clock.drift_us edges clock.reader_rules table) (low : early ≤ more) (high : late ≤ more)
    (IsTrue : ℕ → List Pulse → Type 0) (room : early + late ≤ 3002) (truly : TellAlwaysTruly IsTrue clock rules t edges early late) where
  pub stamped : (calls : List Call) (time now : ℕ) → AreInOrder start clock.redundancy (Tick now ∷ calls) → AreTrueAtTicks IsTrue (f_of clock.redundancy) calls → StepsIn edges early late (new_keeping rules clock table lines) start calls → time ≤ now → now ≤ time + 1800000000 → (stamp : Stamp)
      → stamp_at (after_calls (new_keeping rules clock table lines) calls) (time % 2 ^ 32) ≡ Some stamp → IsStampedTruly t edges more time stamp
  stamped calls time now order truth steps past young stamp e =
      let ToldBefore : Option Announced → ℕ → Announced → Type 0 = λ last A a. IsToldBefore (IsPut edges early late) (IsToldSo t edges early late clock.drift_us) A a in
      let are = stamps rules clock table lines start new_lines (IsPut edges early late) (IsToldSo t edges early late clock.drift_us) ToldBefore (λ last edge a told. told) calls order.3
      (tell_truly rules clock table lines start new_lines t edges early late is IsTrue room truly calls order.3 truth steps) in
      stamped_by rules clock table lines start new_lines t edges early late is more low high calls time now (order.0) (omega (arith, order.1)) past young ToldBefore
      (λ A a come near lasts was stamp none e.
      by_earlier rules clock table lines start new_lines t edges early late is more low high calls time now (order.0) (omega (arith, order.1)) past young room A a come near (state_at rules clock table lines start new_lines t edges early late is calls).last lasts was stamp e)
      (state_at rules clock table lines start new_lines t edges early late is calls).edge_us are stamp e

-- ---- two devices

-- one instant between two edges: so long behind the first by true time, and by a counter that is at
-- most d us a second wrong
module _ (t : TimelineValue) (d : ℕ) (edges : ℕ → ℕ) (quartz : IsQuartz d edges) (n tau time : ℕ) (at : IsInstant d edges n tau time) (stamp : Stamp) (is : IsStampedTruly t edges 0 time stamp) where
  apart_by : (i j k : ℕ) → j ≡ i + k → edges i + k * 999900 ≤ edges j
  apart_by i j k e = subst (λ (x : ℕ). edges i + k * 999900 ≤ edges x) (sym e) (rises d edges quartz i k)

  -- a second before, the same, or one behind
  one_before : is.m < n → n ≡ is.m + 1
  one_before before =
      let far = apart_by is.m n (n - is.m) (omega (arith, before)) in
      omega (arith, far, before, at.begun, is.late, is.behind, is.small)

  one_behind : n + 1 ≤ is.m → is.m ≡ n + 1
  one_behind behind =
      let far = apart_by (n + 1) is.m (is.m - (n + 1)) (omega (arith, behind)) in
      omega (arith, far, behind, at.before_next, is.early, is.small)

  IsNearInstant : Type 0
  IsNearInstant = (n * 1000000 + tau ≤ is.m * 1000000 + stamp.offset_us + stamp.bound_us + 2 * d) × (is.m * 1000000 + stamp.offset_us ≤ n * 1000000 + tau + stamp.bound_us + 2 * d)

  by_before : n ≡ is.m + 1 → IsNearInstant
  unfolding IsNearInstant
  by_before same =
      let here : edges n ≡ edges (is.m + 1) = ap edges same in (
        omega (arith, here, same, at.least, is.late, quartz.steady.least is.m),
        omega (arith, here, same, at.most, is.early, quartz.steady.most is.m),
      )

  by_behind : is.m ≡ n + 1 → IsNearInstant
  unfolding IsNearInstant
  by_behind same =
      let here : edges is.m ≡ edges (n + 1) = ap edges same in (
        omega (arith, here, same, at.least, is.late, quartz.steady.most n),
        omega (arith, here, same, at.most, is.early, quartz.steady.least n),
      )

  by_same : is.m ≡ n → IsNearInstant
  unfolding IsNearInstant
  by_same same =
      let here : edges is.m ≡ edges n = ap edges same in
      (omega (arith, here, same, at.least, is.late), omega (arith, here, same, at.most, is.early))

  -- what the stamp names lies no further from it than its bound and the drift of two seconds
  pub near_instant : (n * 1000000 + tau ≤ is.m * 1000000 + stamp.offset_us + stamp.bound_us + 2 * d) × (is.m * 1000000 + stamp.offset_us ≤ n * 1000000 + tau + stamp.bound_us + 2 * d)
  unfolding IsNearInstant
  near_instant = elim (cases_lt is.m n) [
    | inl before ↦ by_before (one_before before)
    | inr from ↦ elim (cases_lt n is.m) [
      | inl behind ↦ by_behind (one_behind (omega (arith, behind)))
      | inr upto ↦ by_same (omega (arith, from, upto))
    ]
  ]
