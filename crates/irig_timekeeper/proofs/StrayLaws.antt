-- While lines are true and the counter keeps its setting, the true edge lies in the interval that all
-- votes leave, no vote contradicts it, and no frames tell that the counter is unsteady.
use Rattle.irig_time.specs.declared.rules.Rules.{Rules}
use Rattle.irig_lines.specs.declared.within.Within.{Within}
use Rattle.std.specs.Prelude.{◌==◌, ◌&&◌, ◌||◌, nat_le, nat_lt}
use Rattle.std.proofs.Common.{◌≡◌, ◌∙◌, ℕ, ◌+◌, ◌-◌, ◌*◌, ◌%◌, ◌^◌, ◌<◌, ◌≤◌, Bool, true, false, cond, List, [], ◌∷◌, Option, Some, None, refl, sym, ap, subst, arith, inl, inr}
use Rattle.std.specs.Option.{ForSome}
use Rattle.std.proofs.Math.Nat.{mul-le-mul_left, mul-le-mul_right}
use Rattle.std.proofs.lemmas.Bool.{cases_Bool, cases_lt, eqb-true, eqb-false, leb-true, ltb-false}
use Rattle.irig_lines.specs.declared.interval.Interval.{Interval}
use Rattle.irig_lines.specs.declared.lines.Vote.{Vote}
use Rattle.irig_lines.specs.Edges.{IsQuartz, IsNear}
use Rattle.irig_lines.specs.Counting.{edges_between, edges_to_vote, edges_own}
use Rattle.irig_time.specs.Timelines.{TimelineValue}
use Rattle.irig_lines.specs.Intervals.{by_vote, carried, carried_on, or_alone, cut, is_nothing, contradicts}
use Rattle.irig_timekeeper.proofs.IntervalLaws.{IsAround, less_is, meets, not_less, wraps}
use Rattle.irig_timekeeper.proofs.SpentLaws.{no_longer}
use Rattle.irig_timekeeper.specs.Truth.{IsTrueVote, IsEdgeAt, IsDevice}
use Rattle.irig_timekeeper.specs.declared.clock.ClockState.{ClockState}
use Rattle.irig_lines.specs.declared.setup.ClockRules.{ClockRules}
use Rattle.irig_sync.specs.Lines.{Pulse}
use Rattle.irig_vote.specs.Vote.{f_of}
use Rattle.irig_lines.specs.Lines.{IsTrueLately}
use Rattle.irig_timekeeper.specs.Clock.{own_edge, after_own, after_vote, is_held, knowing, knowing_vote, learning, anchors_unless, doubted_s, clock_by, settled_at, is_unsteady, age_of, rules_on}
use Rattle.irig_lines.specs.Steps.{is_pulse, line_at, settled, agreed, if_come}
use Rattle.irig_timekeeper.specs.Keeping.{Keeping, vote_at, after_pulse, after_tick}
use Rattle.irig_timekeeper.specs.Life.{Call, Made, after_calls, device_of, life_of, last_tick, pulses_on, AreInOrder, AreTrueLately, AreTrueAtTicks, LivesTruly}
use Rattle.irig_timekeeper.specs.Life.Call.{Hear, Tick}
use Rattle.irig_timekeeper.proofs.VoteLaws.{vote_is_true}
use Rattle.irig_lines.proofs.LineLaws.{true_by_any, frame_is_even}
use Rattle.irig_timekeeper.proofs.LifeLaws.{AreLinesAt, TellAlwaysTruly, begins, each_new, heard_truly, lines_after}
use Rattle.irig_lines.specs.declared.rate.Anchors.{Anchors}
use Rattle.irig_lines.specs.declared.rate.Anchor.{Anchor}
use Rattle.irig_lines.specs.declared.rate.Rate.{Rate}
use Rattle.irig_lines.specs.declared.pace.Pace.{Pace}
use Rattle.irig_lines.specs.Rates.{anchors_on, anchors_cut, mean_since, rate_of, serving, IsMeanFrom}
use Rattle.irig_lines.specs.Paces.{IsFit, IsSound, WandersAsSet, ahead_us, carried_by, learned, longest_us, middle_of, pace_on, paced, rest_on, shortest_us, spread_of}
use Rattle.irig_lines.proofs.PaceLaws.{IsPaced, begins_paced, goes_on, near_drift, near_learned, spans}
use Rattle.irig_lines.proofs.RateLaws.{AreRound, mean_is}
use Rattle.irig_reader.specs.declared.rule.State.{State}
use Rattle.irig_time.specs.Tables.{TableValue}
use Rattle.irig_timekeeper.specs.Rule.{step_behind}
use Rattle.irig_timekeeper.proofs.AgeLaws.{gone}
use Rattle.irig_timekeeper.proofs.AnchorLaws.{IfAnchored, AreAnchored, ages_on, cuts_on, is_served}
use Rattle.irig_timekeeper.proofs.EvenLaws.{stays_steady, AreEvenAlways}
use Rattle.irig_timekeeper.proofs.TimeLaws.{own_come, own_count, still_edge, own_edge_at, lasts_so, voted_count}
use Rattle.irig_lines.proofs.CountingLaws.{apart, counts, rises}

-- ---- what is known of an edge

-- T(w) begins in the interval, and the edge of a device lies near it: but for the bound of a vote, within
-- half of what the interval grew by since
pub record KnowsEdge (edges : ℕ → ℕ) (edge w : ℕ) (x : Interval) : Type 0 where
  pub begin : ℕ
  pub around : IsAround x begin (edges w)
  pub drift : ℕ
  pub grown : 2 * drift ≤ x.long_us
  pub near : IsNear edges (2899 + drift) (2899 + drift) w edge
  pub short : x.long_us ≤ 980000

-- so it does if anything is known
abbrev pub IfKnown : (ℕ → ℕ) → (edge w : ℕ) → Option Interval → Type 0
IfKnown edges edge w None = Unit {0}
IfKnown edges edge w (Some x) = KnowsEdge edges edge w x

-- so many seconds later an edge lies near its true one, within half of what the interval has grown by then
record LiesNear (d : ℕ) (edges : ℕ → ℕ) (w n edge : ℕ) (x : Interval) : Type 0 where
  drift : ℕ
  grown : 2 * drift ≤ x.long_us + 2 * (n * d)
  near : IsNear edges (2899 + drift) (2899 + drift) (w + n) edge

module _ (d : ℕ) (edges : ℕ → ℕ) (quartz : IsQuartz d edges) where
  -- by a counter from which nothing was learned
  lies_near : (edge w n : ℕ) (x : Interval) → KnowsEdge edges edge w x → LiesNear d edges w n (edge + n * 1000000) x
  lies_near edge w n x h =
      let far = apart d edges quartz w n in
      record {
        drift = h.drift + n * d;
        grown = omega (arith, h.grown);
        near = record { least = omega (arith, far.most, h.near.least); most = omega (arith, far.least, h.near.most) };
      }

  -- so many seconds later
  carries : (edge w n then : ℕ) (x : Interval) → KnowsEdge edges edge w x → LiesNear d edges w n then x → IfKnown edges then (w + n) (carried d n x)
  carries edge w n then x h lies = elim (cases_lt (2 * 490000) (x.long_us + 2 * (n * d))) [
    | inl long ↦ rw (less_is (2 * 490000) (x.long_us + 2 * (n * d)) long) tt
    | inr short ↦
        let far = apart d edges quartz w n in
        let slow = mul-le-mul_left n (let few : d ≤ 100 = omega (arith, quartz.few) in few) in
        rw (not_less (2 * 490000) (x.long_us + 2 * (n * d)) short) (record {
          begin = h.begin + (n * 1000000 - n * d);
          around = record {
            clock = wraps x.begin_us h.begin (n * 1000000 - n * d) h.around.clock;
            least = omega (arith, h.around.least, far.least, slow);
            most = omega (arith, h.around.most, far.most, slow);
          };
          drift = lies.drift;
          grown = omega (arith, lies.grown);
          near = lies.near;
          short = omega (arith, short);
        })
  ]

  carries_on : (edge w n then : ℕ) (o : Option Interval) → IfKnown edges edge w o → ((x : Interval) → o ≡ Some x → KnowsEdge edges edge w x → LiesNear d edges w n then x) → IfKnown edges then (w + n) (carried_on d n o)
  carries_on edge w n then None h lies = tt
  carries_on edge w n then (Some x) h lies = carries edge w n then x h (lies x refl h)

  -- ---- a true vote

  module _ (t : TimelineValue) (now : ℕ) (v : Vote) (vote : IsTrueVote t edges 0 0 now v) where
    abbrev m : ℕ
    m = vote.truth.second + 1

    late : 997001 ≤ vote.edge
    late =
        let rise = rises d edges quartz 0 (vote.truth.second + 1) in
        let there : 0 + (vote.truth.second + 1) ≡ vote.truth.second + 1 = omega arith in
        let at : edges (0 + (vote.truth.second + 1)) ≡ edges (vote.truth.second + 1) = ap edges there in
        omega (arith, rise, at, vote.truth.near.least, vote.small)

    -- by itself
    alone : IsAround (by_vote v) (vote.edge - v.bound_us) (edges (vote.truth.second + 1))
    alone = record {
      clock = of v.edge_us vote.edge v.bound_us vote.clock (omega (arith, late, vote.small)) (omega (arith, vote.small));
      least = omega (arith, vote.truth.near.most);
      most = omega (arith, vote.truth.near.least, late, vote.small);
    }
      where
        of : (e edge bound : ℕ) → e ≡ edge % 2 ^ 32 → bound ≤ edge → bound ≤ 2899 → (e + 2 ^ 32 - bound) % 2 ^ 32 ≡ (edge - bound) % 2 ^ 32
        of e edge bound is low few = omega (arith, is, low, few)

    pub knows_alone : KnowsEdge edges vote.edge (vote.truth.second + 1) (by_vote v)
    knows_alone = record {
      begin = vote.edge - v.bound_us;
      around = alone;
      drift = 0;
      grown = omega arith;
      near = record { least = omega (arith, vote.truth.near.least, vote.small); most = omega (arith, vote.truth.near.most, vote.small) };
      short = omega (arith, vote.small);
    }

    -- the seconds from an edge that lies so near T(w) are counted right
    module _ (tick : ℕ) (order : tick ≤ now) (soon : now ≤ tick + 1800000000) (edge w : ℕ) (come : edge ≤ tick) (near : tick < edge + 1006000) (drift : ℕ) (is_near : IsNear edges (2899 + drift) (2899 + drift) w edge) (n : ℕ) (same : n ≡ edges_between edge vote.edge)
        (few : 2 * drift + 2 * (n * d) ≤ 980000) where
      low : edges w ≤ edge + (2899 + drift)
      low = omega (arith, is_near.least)

      high : edge ≤ edges w + (2899 + drift)
      high = omega (arith, is_near.most)

      not_before : w ≤ vote.truth.second + 1
      not_before = elim (cases_lt (vote.truth.second + 1) w) [
        | inr later ↦ later
        | inl before ↦
            let k : ℕ = w - (vote.truth.second + 1) in
            let there : vote.truth.second + 1 + k ≡ w = omega (arith, before) in
            let rise = subst (λ (i : ℕ). edges (vote.truth.second + 1) + k * 999900 ≤ edges i) there (rises d edges quartz (vote.truth.second + 1) k) in
            let one : 1 ≤ k = omega (arith, before) in
            absurd (omega (arith, rise, one, few, low, vote.truth.near.most, vote.small, vote.soon, come, order))
      ]

      k : ℕ
      k = vote.truth.second + 1 - w

      there : w + k ≡ vote.truth.second + 1
      unfolding k
      there = omega (arith, not_before)

      one_more : k ≤ n + 1
      one_more =
          let far = apart d edges quartz w k in
          let upto = subst (λ (i : ℕ). edges w + k * 1000000 ≤ edges i + k * d) there far.least in
          let slow = mul-le-mul_left k (let few : d ≤ 100 = omega (arith, quartz.few) in few) in
          let most : n ≤ 1803 = omega (arith, same, vote.come, soon, near) in
          omega (arith, upto, slow, most, same, few, low, high, vote.truth.near.least, vote.small)

      pub right : w + n ≡ vote.truth.second + 1
      right =
          let drifts = mul-le-mul_left d one_more in
          let here = subst (λ (i : ℕ). IsNear edges v.bound_us v.bound_us i vote.edge) (sym there) (record { least = omega (arith, vote.truth.near.least); most = omega (arith, vote.truth.near.most) }) in
          let count = counts d (2899 + drift) (2899 + drift) v.bound_us v.bound_us w k edge vote.edge edges quartz (record { least = low; most = high }) here
          (omega (arith, drifts, few, quartz.few, vote.small)) (omega (arith, drifts, few, quartz.few, vote.small)) in
          omega (arith, same, count, there)

    -- by what was known too, which it does not contradict
    pub record KnowsOn (o : Option Interval) : Type 0 where
      pub knows : KnowsEdge edges vote.edge (vote.truth.second + 1) (cut o (by_vote v))
      pub agrees : contradicts o (by_vote v) ≡ false

    pub cuts : (edge w : ℕ) (o : Option Interval) → IfKnown edges edge w o → (ForSome o (λ x. w ≡ vote.truth.second + 1)) → KnowsOn o
    cuts edge w None h at = record { knows = knows_alone; agrees = refl }
    cuts edge w (Some x) h at =
        let same : w ≡ vote.truth.second + 1 = at x refl in
        let around : IsAround x h.begin (edges (vote.truth.second + 1)) = subst (λ (i : ℕ). IsAround x h.begin (edges i)) same h.around in
        let both = meets x (by_vote v) h.begin (vote.edge - v.bound_us) (edges (vote.truth.second + 1)) around alone h.short (omega (arith, vote.small)) in
        let is = both.1 in
        let c = both.2 in
        let around_both : IsAround both.0 c.begin (edges (vote.truth.second + 1)) = c.around in
        let known : KnowsEdge edges vote.edge (vote.truth.second + 1) both.0 = record {
          begin = c.begin;
          around = around_both;
          drift = 0;
          grown = omega arith;
          near = record { least = omega (arith, vote.truth.near.least, vote.small); most = omega (arith, vote.truth.near.most, vote.small) };
          short = omega (arith, c.short, h.short);
        } in
        record {
          knows = subst (λ (r : Option Interval). KnowsEdge edges vote.edge (vote.truth.second + 1) (or_alone r (by_vote v))) (sym is) known;
          agrees = ap is_nothing is;
        }

-- ---- what was learned

-- the edge stands for T(w), so many seconds behind a vote, no more than the reader's age, and these are in
-- what the interval grew by
pub record LearnedTruly (edges : ℕ → ℕ) (c : ClockRules) (w age voted edge : ℕ) (known : Option Interval) (p : Pace) : Type 0 where
  pub a : ℕ
  pub young : a ≤ age
  pub few : a ≤ c.reader_rules.holdover
  pub paced : IsPaced edges (c.reader_rules.holdover + 2000) c.drift_us voted w a edge p
  pub fit : IsFit p
  pub grown : ForSome known (λ x. 2 * (a * c.drift_us) ≤ x.long_us)

-- so it is if anything was learned
abbrev pub IfLearned : (ℕ → ℕ) → ClockRules → (w age voted edge : ℕ) → Option Interval → Option Pace → Type 0
IfLearned edges c w age voted edge known None = Unit {0}
IfLearned edges c w age voted edge known (Some p) = LearnedTruly edges c w age voted edge known p

module _ (c : ClockRules) (edges : ℕ → ℕ) (quartz : IsQuartz c.drift_us edges) where
  -- what was learned lasts so long
  pub is_sound : (w age voted edge : ℕ) (known : Option Interval) (pace : Option Pace) → IfLearned edges c w age voted edge known pace → IsSound pace
  is_sound w age voted edge known None h = λ p e. absurd cc
  is_sound w age voted edge known (Some p) h = λ q e. subst IsFit (let same : p ≡ q = cc in same) h.fit

  -- the next edge lies near its true one
  next_lies : (w age voted edge n : ℕ) (known : Option Interval) (pace : Option Pace) → IfLearned edges c w age voted edge known pace → voted ≤ 2899 → 1 ≤ n → n ≤ 1803 → (x : Interval) → known ≡ Some x → KnowsEdge edges edge w x → LiesNear c.drift_us edges w n (edge + ahead_us pace n) x
  next_lies w age voted edge n known None h small some few x is k = lies_near c.drift_us edges quartz edge w n x k
  next_lies w age voted edge n known (Some p) h small some few x is k =
      let on = goes_on edges (c.reader_rules.holdover + 2000) c.drift_us voted w h.a edge p h.paced n (omega (arith, h.few, few)) in
      let near = near_drift edges (c.reader_rules.holdover + 2000) c.drift_us voted (w + n) (h.a + n) (edge + ahead_us (Some p) n) (rest_on n p) on (omega (arith, some)) in
      let grown : 2 * (h.a * c.drift_us) ≤ x.long_us = h.grown x is in
      record {
        drift = (h.a + n) * c.drift_us;
        grown = omega (arith, grown);
        near = record { least = omega (arith, near.least, small); most = omega (arith, near.most, small) };
      }

  -- it goes on while the reader does
  learned_on : (table : TableValue) (s : State) (w voted edge n : ℕ) (known : Option Interval) (pace : Option Pace) → IfLearned edges c w (age_of s) voted edge known pace → 1 ≤ n → n ≤ 1803
      → IfLearned edges c (w + n) (age_of (step_behind c.prefers_frames (rules_on c pace s n) table (n - 1) s None).state) voted (edge + ahead_us pace n) (carried_on c.drift_us n known)
      (pace_on (is_held (step_behind c.prefers_frames (rules_on c pace s n) table (n - 1) s None).state) n pace)
  learned_on table s w voted edge n known None h some few = tt
  learned_on table s w voted edge n known (Some p) h some few = elim (gone c.prefers_frames (rules_on c (Some p) s n) table (n - 1) s) [
    | inl idle ↦ let ends : is_held (step_behind c.prefers_frames (rules_on c (Some p) s n) table (n - 1) s None).state ≡ false = ap is_held idle in rw ends tt
    | inr older ↦
        let lasts : is_held (step_behind c.prefers_frames (rules_on c (Some p) s n) table (n - 1) s None).state ≡ true = ap is_held older.is in
        let age : age_of (step_behind c.prefers_frames (rules_on c (Some p) s n) table (n - 1) s None).state ≡ older.h.age = ap age_of older.is in
        let one_more : n ≡ n - 1 + 1 = omega (arith, some) in
        let on = goes_on edges (c.reader_rules.holdover + 2000) c.drift_us voted w h.a edge p h.paced n (omega (arith, h.few, few)) in
        let next : LearnedTruly edges c (w + n) (age_of (step_behind c.prefers_frames (rules_on c (Some p) s n) table (n - 1) s None).state) voted (edge + ahead_us (Some p) n) (carried_on c.drift_us n known) (rest_on n p) = record {
          a = h.a + n;
          young = omega (arith, age, older.older, h.young, one_more);
          few = omega (arith, older.older, older.young, no_longer c (Some p) s n, h.young, one_more);
          paced = on;
          fit = record { least = h.fit.least; most = h.fit.most; rest = omega arith };
          grown = grows known h.grown;
        } in
        rw lasts next
  ]
    where
      grows_by : (x y : Interval) (a : ℕ) (test : Bool) → 2 * (a * c.drift_us) ≤ x.long_us → cond test None (Some (record { begin_us = (x.begin_us + (n * 1000000 - n * c.drift_us)) % 2 ^ 32; long_us = x.long_us + 2 * (n * c.drift_us) })) ≡ Some y → 2 * ((a + n) * c.drift_us) ≤ y.long_us
      grows_by x y a true was is = absurd cc
      grows_by x y a false was is = let long : y.long_us ≡ x.long_us + 2 * (n * c.drift_us) = cc in omega (arith, was, long)

      grows : (o : Option Interval) → ForSome o (λ x. 2 * (h.a * c.drift_us) ≤ x.long_us) → ForSome (carried_on c.drift_us n o) (λ x. 2 * ((h.a + n) * c.drift_us) ≤ x.long_us)
      grows None was = λ y is. absurd cc
      grows (Some x) was = λ y is. grows_by x y h.a (nat_lt (2 * 490000) (x.long_us + 2 * (n * c.drift_us))) (was x refl) is

  -- ---- behind a vote

  module _ (wanders : WandersAsSet c edges) (x : Interval) (w age voted edge : ℕ) (begin : ℕ) (around : IsAround x begin (edges w)) (short : x.long_us ≤ 980000) (near : IsNear edges voted voted w edge) where
    by_rate : (rate : Rate) (from : ℕ) → IsMeanFrom edges from rate → from + rate.seconds ≡ w → rate.seconds ≤ 2000 → (p : Pace) → p ≡ (record { second_ns = middle_of rate; within_ns = spread_of c.wander_ppb rate; rest_ns = 0 })
        → (none short fits slow fast : Bool) → (c.wander_ppb == 0) ≡ none → nat_lt rate.seconds 1000 ≡ short → nat_le (p.within_ns + 1000) (1000 * c.drift_us) ≡ fits → nat_le 999900000 p.second_ns ≡ slow → nat_le p.second_ns 1000100000 ≡ fast
        → IfLearned edges c w age voted edge (Some x) (cond (none || short) None (cond (fits && (slow && fast)) (Some p) None))
    by_rate rate from mean since few p is true _ _ _ _ _ _ _ _ _ = tt
    by_rate rate from mean since few p is false true _ _ _ _ _ _ _ _ = tt
    by_rate rate from mean since few p is false false false _ _ _ _ _ _ _ = tt
    by_rate rate from mean since few p is false false true false _ _ _ _ _ _ = tt
    by_rate rate from mean since few p is false false true true false _ _ _ _ _ = tt
    by_rate rate from mean since few p is false false true true true some long fits slow fast = by wanders
      where
        fine : p.within_ns + 1000 ≤ 1000 * c.drift_us
        fine = leb-true (p.within_ns + 1000) (1000 * c.drift_us) fits

        least : 999900000 ≤ p.second_ns
        least = leb-true 999900000 p.second_ns slow

        most : p.second_ns ≤ 1000100000
        most = leb-true p.second_ns 1000100000 fast

        enough : 1000 ≤ rate.seconds
        enough = ltb-false rate.seconds 1000 long

        by : WandersAsSet c edges → LearnedTruly edges c w age voted edge (Some x) p
        by (inl none) = absurd (eqb-false c.wander_ppb 0 some none)
        by (inr osc) = record {
          a = 0;
          young = omega arith;
          few = omega arith;
          paced = begins_paced c.wander_ppb (c.reader_rules.holdover + 4000) edges osc.0 osc.1 c.drift_us quartz rate from (c.reader_rules.holdover + 2000) voted w edge mean since enough (omega (arith, few)) near p is fine;
          fit = record {
            least = least;
            most = most;
            rest = (let none : p.rest_ns ≡ 0 = ap (λ (q : Pace). q.rest_ns) is in omega (arith, none));
          };
          grown = λ y same. omega arith;
        }

    by_anchor : (o : Option Anchor) → IfAnchored edges w o → IfLearned edges c w age voted edge (Some x) (learned c (rate_of (Some x) o))
    by_anchor None h = tt
    by_anchor (Some a) h = of (a.seconds == 0) refl
      where
        there : IsAround x begin (edges (h.from + a.seconds))
        there = subst (λ (i : ℕ). IsAround x begin (edges i)) (sym h.since) around

        round : AreRound edges h.from a.seconds a x h.begin begin
        round = record {
          clock = h.clock;
          least = h.least;
          most = h.most;
          short = h.short;
          clock_later = there.clock;
          least_later = there.least;
          most_later = there.most;
          short_later = short;
        }

        of : (none : Bool) → (a.seconds == 0) ≡ none → IfLearned edges c w age voted edge (Some x) (learned c (cond none None (Some (mean_since a x))))
        of true e = tt
        of false e = by_rate (mean_since a x) h.from (mean_is c.drift_us edges quartz h.from a x h.begin begin round (omega (arith, eqb-false a.seconds 0 e)) h.few) h.since h.few _ refl _ _ _ _ _ refl refl refl refl refl

    pub learns : (anchors : Anchors) → AreAnchored edges w anchors → IfLearned edges c w age voted edge (Some x) (learned c (rate_of (Some x) (serving anchors)))
    learns anchors h = by_anchor (serving anchors) (is_served edges w anchors h)

-- ---- a clock

-- nothing is known before the first edge
abbrev pub IfEdge : (ℕ → ℕ) → ClockRules → ℕ → Option ℕ → Option Interval → Anchors → (age voted : ℕ) → Option Pace → Type 0
IfEdge edges c tick None known anchors age voted pace = (known ≡ None) × (pace ≡ None)
IfEdge edges c tick (Some e) known anchors age voted pace =
    (edge : ℕ) × (w : ℕ) × IsEdgeAt e edge tick × IfKnown edges edge w known × AreAnchored edges w anchors × IfLearned edges c w age voted edge known pace

-- its last edge is that of a tick, in what is known lies a true one, in each anchor that of so many
-- seconds before, what it learned is so, no vote contradicted it, and nothing is in doubt
pub record KnowsTruly (edges : ℕ → ℕ) (tick : ℕ) (c : ClockRules) (s : ClockState) : Type 0 where
  pub strays : s.strays ≡ 0
  pub doubt : s.doubt ≡ 0
  pub small : s.bound_us ≤ 2899
  pub known : IfEdge edges c tick s.edge_us s.interval s.anchors (age_of s.reader) s.bound_us s.pace

module _ (c : ClockRules) (edges : ℕ → ℕ) (quartz : IsQuartz c.drift_us edges) (tick now : ℕ) (order : tick ≤ now) (soon : now ≤ tick + 1800000000) where
  abbrev d : ℕ
  d = c.drift_us

  -- where the reader and what was learned then stand
  abbrev reader_on : TableValue → Option Pace → State → ℕ → State
  reader_on table pace s n = (step_behind c.prefers_frames (rules_on c pace s n) table (n - 1) s None).state

  abbrev pace_then : TableValue → State → ℕ → Option Pace → Option Pace
  pace_then table s n pace = pace_on (is_held (reader_on table pace s n)) n pace

  -- without a vote
  own_edge_known : (table : TableValue) (s : State) (voted : ℕ) (pace : Option Pace) (o : Option ℕ) (known : Option Interval) (anchors : Anchors) → voted ≤ 2899 → IfEdge edges c tick o known anchors (age_of s) voted pace → (n : ℕ) → n ≡ edges_own pace o (now % 2 ^ 32)
      → IfEdge edges c now (cond (n == 0) o (Some (own_edge pace o n))) (carried_on d n known) (anchors_on n (carried_on d n known) anchors) (age_of (cond (n == 0) s (reader_on table pace s n))) voted (cond (n == 0) pace (pace_then table s n pace))
  own_edge_known table s voted pace None known anchors small none n same = rw (same, none.0) (refl, none.1)
  own_edge_known table s voted pace (Some e) known anchors small h n same =
      let edge = h.0 in
      let at = h.2 in
      let count : n ≡ own_come pace edge now = same ∙ own_count tick now order soon e edge at pace in
      let aged = ages_on edges h.1 n (carried_on d n known) anchors h.4 in
      elim (cases_Bool (n == 0)) [
        | inl none ↦
            let nothing : n ≡ 0 = eqb-true n 0 none in
            let still = waits known anchors edge h.1 n nothing h.3 aged h.5 in
            rw none (edge, h.1, still_edge tick now order soon e edge at pace (sym count ∙ nothing), still.0, still.1, still.2)
        | inr some ↦
            let one : 1 ≤ n = omega (arith, eqb-false n 0 some) in
            let sound = is_sound c edges quartz h.1 (age_of s) voted edge known pace h.5 in
            let then = own_edge_at tick now order soon e edge at pace sound n count one in
            let few : n ≤ 1803 = omega (arith, (lasts_so pace sound n).least, then.come, at.soon, soon) in
            rw some (edge + ahead_us pace n, h.1 + n, then, carries_on d edges quartz edge h.1 n (edge + ahead_us pace n) known h.3 (next_lies c edges quartz h.1 (age_of s) voted edge n known pace h.5 small one few), aged, learned_on c edges quartz table s h.1 voted edge n known pace h.5 one few)
      ]
    where
      -- by no second
      waits : (known : Option Interval) (anchors : Anchors) (edge w n : ℕ) → n ≡ 0 → IfKnown edges edge w known → AreAnchored edges (w + n) (anchors_on n (carried_on d n known) anchors) → IfLearned edges c w (age_of s) voted edge known pace
          → IfKnown edges edge w (carried_on d n known) × AreAnchored edges w (anchors_on n (carried_on d n known) anchors) × IfLearned edges c w (age_of s) voted edge (carried_on d n known) pace
      waits known anchors edge w n nothing k aged l =
          let here : w + n ≡ w = omega (arith, nothing) in
          let there : edge + n * 1000000 ≡ edge = omega (arith, nothing) in
          let on = carries_on d edges quartz edge w n (edge + n * 1000000) known k (λ x is h. lies_near d edges quartz edge w n x h) in (
            subst (λ (x : ℕ). IfKnown edges x w (carried_on d n known)) there (subst (λ (i : ℕ). IfKnown edges (edge + n * 1000000) i (carried_on d n known)) here on),
            subst (λ (i : ℕ). AreAnchored edges i (anchors_on n (carried_on d n known) anchors)) here aged,
            same_learned pace l,
          )
        where
          longer : (x y : Interval) (test : Bool) → cond test None (Some (record { begin_us = (x.begin_us + (n * 1000000 - n * d)) % 2 ^ 32; long_us = x.long_us + 2 * (n * d) })) ≡ Some y → x.long_us ≤ y.long_us
          longer x y true is = absurd cc
          longer x y false is = let long : y.long_us ≡ x.long_us + 2 * (n * d) = cc in omega (arith, long)

          grows : (a : ℕ) (o : Option Interval) → ForSome o (λ x. 2 * (a * d) ≤ x.long_us) → ForSome (carried_on d n o) (λ x. 2 * (a * d) ≤ x.long_us)
          grows a None was = λ y is. absurd cc
          grows a (Some x) was = λ y is. omega (arith, was x refl, longer x y (nat_lt (2 * 490000) (x.long_us + 2 * (n * d))) is)

          same_learned : (pace : Option Pace) → IfLearned edges c w (age_of s) voted edge known pace → IfLearned edges c w (age_of s) voted edge (carried_on d n known) pace
          same_learned None l = tt
          same_learned (Some p) l = record { a = l.a; young = l.young; few = l.few; paced = l.paced; fit = l.fit; grown = grows l.a known l.grown }

  -- with a true one
  module _ (t : TimelineValue) (v : Vote) (vote : IsTrueVote t edges 0 0 now v) where
    edge_now : IsEdgeAt v.edge_us vote.edge now
    edge_now = record { clock = vote.clock; come = vote.come; soon = omega (arith, vote.soon) }

    -- one second later by what was learned
    module _ (e : ℕ) (p : Pace) (x : Interval) (age before edge w : ℕ) (at : IsEdgeAt e edge tick) (h : KnowsEdge edges edge w x) (l : LearnedTruly edges c w age before edge (Some x) p) (small : before ≤ 2899) (one : 1 ≡ edges_between edge vote.edge) where
      slow : d ≤ 100
      slow = omega (arith, quartz.few)

      -- it lies near its true one
      far : ℕ
      far = l.a * d - l.a + 1

      is_near : IsNear edges (2899 + far) (2899 + far) w edge
      unfolding far
      is_near =
          let near = near_learned edges (c.reader_rules.holdover + 2000) d before w l.a edge p l.paced in
          let product = mul-le-mul_left l.a l.paced.fit in
          record { least = omega (arith, near.least, product, small); most = omega (arith, near.most, product, small) }

      few : 2 * far + 2 * (1 * d) ≤ 980000
      unfolding far
      few =
          let known : 2 * (l.a * d) ≤ x.long_us = l.grown x refl in
          elim (cases_lt d l.a) [
            | inl more ↦ omega (arith, known, h.short, more)
            | inr upto ↦ let product = mul-le-mul_right d (let hundred : l.a ≤ 100 = omega (arith, upto, slow) in hundred) in omega (arith, product, slow)
          ]

      is_next : w + 1 ≡ vote.truth.second + 1
      is_next = right d edges quartz t now v vote tick order soon edge w at.come at.soon far is_near 1 one few

      paced_cuts : KnowsOn d edges quartz t now v vote (paced p x)
      paced_cuts = elim (cases_lt (2 * 490000) (x.long_us + (longest_us p - shortest_us p))) [
        | inl long ↦ rw (less_is (2 * 490000) (x.long_us + (longest_us p - shortest_us p)) long) (record { knows = knows_alone d edges quartz t now v vote; agrees = refl })
        | inr fits ↦
            let span = spans edges (c.reader_rules.holdover + 2000) d before w l.a edge p l.paced l.fit slow (omega (arith, l.few)) in
            let y : Interval = record { begin_us = (x.begin_us + shortest_us p) % 2 ^ 32; long_us = x.long_us + (longest_us p - shortest_us p) } in
            let known : KnowsEdge edges vote.edge (w + 1) y = record {
              begin = h.begin + shortest_us p;
              around = record {
                clock = wraps x.begin_us h.begin (shortest_us p) h.around.clock;
                least = omega (arith, h.around.least, span.least);
                most = omega (arith, h.around.most, span.most);
              };
              drift = 0;
              grown = omega arith;
              near = subst (λ (i : ℕ). IsNear edges (2899 + 0) (2899 + 0) i vote.edge) (sym is_next) (record { least = omega (arith, vote.truth.near.least, vote.small); most = omega (arith, vote.truth.near.most, vote.small) });
              short = omega (arith, fits);
            } in
            rw (not_less (2 * 490000) (x.long_us + (longest_us p - shortest_us p)) fits) (cuts d edges quartz t now v vote vote.edge (w + 1) (Some y) known (λ z e. is_next))
      ]

      paced_anchored : (anchors : Anchors) → AreAnchored edges w anchors → AreAnchored edges (vote.truth.second + 1) (anchors_on 1 (paced p x) anchors)
      paced_anchored anchors are = subst (λ (i : ℕ). AreAnchored edges i (anchors_on 1 (paced p x) anchors)) is_next (ages_on edges w 1 (paced p x) anchors are)

    -- by the drift
    module _ (e edge w : ℕ) (at : IsEdgeAt e edge tick) (x : Interval) (h : KnowsEdge edges edge w x) (n : ℕ) (count : n ≡ edges_between edge vote.edge) where
      is_right : x.long_us + 2 * (n * d) ≤ 980000 → w + n ≡ vote.truth.second + 1
      is_right short = right d edges quartz t now v vote tick order soon edge w at.come at.soon h.drift h.near n count (omega (arith, h.grown, short))

      drift_anchored : (anchors : Anchors) → AreAnchored edges w anchors → AreAnchored edges (vote.truth.second + 1) (anchors_on n (carried d n x) anchors)
      drift_anchored anchors are = elim (cases_lt (2 * 490000) (x.long_us + 2 * (n * d))) [
        | inl long ↦ rw (less_is (2 * 490000) (x.long_us + 2 * (n * d)) long) (record { old = tt; young = tt })
        | inr short ↦ subst (λ (w : ℕ). AreAnchored edges w (anchors_on n (carried d n x) anchors)) (is_right (omega (arith, short))) (ages_on edges w n (carried d n x) anchors are)
      ]

      drift_cuts : KnowsOn d edges quartz t now v vote (carried d n x)
      drift_cuts = elim (cases_lt (2 * 490000) (x.long_us + 2 * (n * d))) [
        | inl long ↦ rw (less_is (2 * 490000) (x.long_us + 2 * (n * d)) long) (record { knows = knows_alone d edges quartz t now v vote; agrees = refl })
        | inr short ↦ cuts d edges quartz t now v vote (edge + n * 1000000) (w + n) (carried d n x) (carries d edges quartz edge w n (edge + n * 1000000) x h (lies_near d edges quartz edge w n x h)) (λ y e. is_right (omega (arith, short)))
      ]

    -- the anchors serve on
    anchored : (o : Option ℕ) (known : Option Interval) (anchors : Anchors) (age before : ℕ) (pace : Option Pace) → before ≤ 2899 → IfEdge edges c tick o known anchors age before pace → (n : ℕ) → n ≡ edges_to_vote o v.edge_us → AreAnchored edges (vote.truth.second + 1) (anchors_on n (carried_by d pace n known) anchors)
    anchored None known anchors age before pace small none n same = rw none.0 (record { old = tt; young = tt })
    anchored (Some e) None anchors age before pace small h n same = record { old = tt; young = tt }
    anchored (Some e) (Some x) anchors age before None small h n same =
        let count : n ≡ edges_between h.0 vote.edge = same ∙ voted_count tick now order soon e h.0 h.2 v.edge_us vote.edge edge_now vote.soon in
        drift_anchored e h.0 h.1 h.2 x h.3 n count anchors h.4
    anchored (Some e) (Some x) anchors age before (Some p) small h n same =
        let count : n ≡ edges_between h.0 vote.edge = same ∙ voted_count tick now order soon e h.0 h.2 v.edge_us vote.edge edge_now vote.soon in
        elim (cases_Bool (n == 1)) [
          | inl is ↦
              let one : n ≡ 1 = eqb-true n 1 is in
              let on = paced_anchored e p x age before h.0 h.1 h.2 h.3 h.5 small (sym one ∙ count) anchors h.4 in
              rw is (subst (λ (m : ℕ). AreAnchored edges (vote.truth.second + 1) (anchors_on m (paced p x) anchors)) (sym one) on)
          | inr more ↦ rw more (drift_anchored e h.0 h.1 h.2 x h.3 n count anchors h.4)
        ]

    voted : (o : Option ℕ) (known : Option Interval) (anchors : Anchors) (age before : ℕ) (pace : Option Pace) → before ≤ 2899 → IfEdge edges c tick o known anchors age before pace → (n : ℕ) → n ≡ edges_to_vote o v.edge_us → KnowsOn d edges quartz t now v vote (carried_by d pace n known)
    voted None known anchors age before pace small none n same = rw none.0 (record { knows = knows_alone d edges quartz t now v vote; agrees = refl })
    voted (Some e) None anchors age before pace small h n same = record { knows = knows_alone d edges quartz t now v vote; agrees = refl }
    voted (Some e) (Some x) anchors age before None small h n same =
        let count : n ≡ edges_between h.0 vote.edge = same ∙ voted_count tick now order soon e h.0 h.2 v.edge_us vote.edge edge_now vote.soon in
        drift_cuts e h.0 h.1 h.2 x h.3 n count
    voted (Some e) (Some x) anchors age before (Some p) small h n same =
        let count : n ≡ edges_between h.0 vote.edge = same ∙ voted_count tick now order soon e h.0 h.2 v.edge_us vote.edge edge_now vote.soon in
        elim (cases_Bool (n == 1)) [
          | inl is ↦ let one : n ≡ 1 = eqb-true n 1 is in rw is (paced_cuts e p x age before h.0 h.1 h.2 h.3 h.5 small (sym one ∙ count))
          | inr more ↦ rw more (drift_cuts e h.0 h.1 h.2 x h.3 n count)
        ]

-- ---- a life

module _ (t : TimelineValue) (edges : ℕ → ℕ) (new : Keeping) (start : ℕ) (begins : AreLinesAt new new (λ i. []) start start) (fresh : (i : ℕ) → i < 5 → (line_at new.state.lines i).frame ≡ None) (is : IsDevice t new.clock.drift_us edges new.clock.reader_rules new.table)
    (IsTrue : ℕ → List Pulse → Type 0) (truly : TellAlwaysTruly IsTrue new.clock new.rules t edges 0 0) (evenly : AreEvenAlways IsTrue new.clock.within.us new.clock.drift_us) (wanders : WandersAsSet new.clock edges) where
  knows_tick : (calls : List Call) (now : ℕ) → AreInOrder start new.clock.redundancy (Tick now ∷ calls) → AreTrueLately IsTrue (f_of new.clock.redundancy) now calls → KnowsTruly edges (last_tick start calls) (after_calls new calls).clock (after_calls new calls).state
      → KnowsTruly edges now (after_calls new calls).clock (after_tick (after_calls new calls) (now % 2 ^ 32)).state
  knows_tick calls now order lately h = of (vote_at k (now % 2 ^ 32)) refl
    where
      k : Keeping
      k = after_calls new calls

      s : ClockState
      s = settled_at k.clock k.state (now % 2 ^ 32)

      same : k.clock ≡ new.clock
      same = (lines_after new start begins calls now order).same.clock

      quartz : IsQuartz k.clock.drift_us edges
      quartz = subst (λ (c : ClockRules). IsQuartz c.drift_us edges) (sym same) is.steady

      soon : now ≤ last_tick start calls + 1800000000
      soon = omega (arith, order.1)

      true_vote : (v : Vote) → vote_at k (now % 2 ^ 32) ≡ Some v → IsTrueVote t edges 0 0 now v
      true_vote v e =
          vote_is_true (IsTrue now) new.rules t new.clock edges is.steady 0 0 (omega arith) now k.state.lines (λ i. pulses_on i calls) (truly now) (heard_truly IsTrue t edges 0 0 new start begins calls now order lately) v
          (ap (λ (c : ClockRules). if_come (now % 2 ^ 32) (agreed c (settled (now % 2 ^ 32) k.state.lines))) (sym same) ∙ e)

      -- frames are even
      steady : is_unsteady k.clock k.state (now % 2 ^ 32) ≡ false
      steady = stays_steady new start begins fresh IsTrue is.steady.few evenly calls now order lately

      strays : s.strays ≡ 0
      strays = rw steady h.strays

      doubt : s.doubt ≡ 0
      doubt = rw steady h.doubt

      wandering : WandersAsSet k.clock edges
      wandering = subst (λ (c : ClockRules). WandersAsSet c edges) (sym same) wanders

      known_then : IfEdge edges k.clock (last_tick start calls) k.state.edge_us k.state.interval s.anchors (age_of k.state.reader) k.state.bound_us s.pace
      known_then = rw steady h.known

      reader_then : ℕ → State
      reader_then n = (step_behind k.clock.prefers_frames (rules_on k.clock s.pace k.state.reader n) k.table (n - 1) k.state.reader None).state

      own : (n : ℕ) → n ≡ edges_own s.pace k.state.edge_us (now % 2 ^ 32) → KnowsTruly edges now k.clock (knowing k.clock s n (after_own k.clock k.table s n))
      own n count =
          let known = own_edge_known k.clock edges quartz (last_tick start calls) now order.0 soon k.table k.state.reader k.state.bound_us s.pace k.state.edge_us k.state.interval s.anchors h.small known_then n count in
          by (n == 0) refl known
        where
          by : (test : Bool) → (n == 0) ≡ test → IfEdge edges k.clock now (cond test k.state.edge_us (Some (own_edge s.pace k.state.edge_us n))) (carried_on k.clock.drift_us n k.state.interval) (anchors_on n (carried_on k.clock.drift_us n k.state.interval) s.anchors) (age_of (cond test k.state.reader (reader_then n))) k.state.bound_us (cond test s.pace (pace_on (is_held (reader_then n)) n s.pace))
              → KnowsTruly edges now k.clock (knowing k.clock s n (after_own k.clock k.table s n))
          by true e known = rw e (record { strays = strays; doubt = doubt; small = h.small; known = known })
          by false e known = rw e (record { strays = strays; doubt = doubt; small = h.small; known = known })

      no_more : (x : ClockState) (more : Bool) (n : ℕ) → more ≡ false → x.strays ≡ 0 → x.doubt ≡ 0 → (cond more ((x.strays + 1) % 2 ^ 32) x.strays ≡ 0) × (cond more (doubted_s k.clock) (x.doubt - n) ≡ 0)
      no_more x more n same strays doubt = rw same (strays, omega (arith, doubt))

      by_true : (v : Vote) (vote : IsTrueVote t edges 0 0 now v) (n : ℕ) → n ≡ edges_to_vote k.state.edge_us v.edge_us → KnowsTruly edges now k.clock (learning k.clock (knowing_vote k.clock s v n (after_vote k.clock k.table s v n)))
      by_true v vote n count =
          let then = carried_by k.clock.drift_us s.pace n k.state.interval in
          let on = voted k.clock edges quartz (last_tick start calls) now order.0 soon t v vote k.state.edge_us k.state.interval s.anchors (age_of k.state.reader) k.state.bound_us s.pace h.small known_then n count in
          let serve = anchored k.clock edges quartz (last_tick start calls) now order.0 soon t v vote k.state.edge_us k.state.interval s.anchors (age_of k.state.reader) k.state.bound_us s.pace h.small known_then n count in
          let both = cuts_on edges (vote.truth.second + 1) (cut then (by_vote v)) on.knows.begin on.knows.around.clock on.knows.around.least on.knows.around.most on.knows.short (anchors_on n then s.anchors) serve in
          let anchors : AreAnchored edges (vote.truth.second + 1) (anchors_cut (cut then (by_vote v)) (anchors_unless (contradicts then (by_vote v)) (anchors_on n then s.anchors))) = rw on.agrees both in
          let near : IsNear edges v.bound_us v.bound_us (vote.truth.second + 1) vote.edge = record { least = omega (arith, vote.truth.near.least); most = omega (arith, vote.truth.near.most) } in
          let known : (age : ℕ) → IfEdge edges k.clock now (Some v.edge_us) (Some (cut then (by_vote v))) (anchors_cut (cut then (by_vote v)) (anchors_unless (contradicts then (by_vote v)) (anchors_on n then s.anchors))) age v.bound_us
          (learned k.clock (rate_of (Some (cut then (by_vote v))) (serving (anchors_cut (cut then (by_vote v)) (anchors_unless (contradicts then (by_vote v)) (anchors_on n then s.anchors)))))) =
          λ age. (vote.edge, vote.truth.second + 1, record { clock = vote.clock; come = vote.come; soon = omega (arith, vote.soon) }, on.knows, anchors, learns k.clock edges quartz wandering (cut then (by_vote v)) (vote.truth.second + 1) age v.bound_us vote.edge on.knows.begin on.knows.around on.knows.short near _ anchors) in
          let none = no_more s (contradicts then (by_vote v)) n on.agrees strays doubt in
          elim (cases_Bool (n == 0)) [
            | inl waits ↦ rw waits (record { strays = none.0; doubt = none.1; small = vote.small; known = known _ })
            | inr more ↦ rw more (record { strays = none.0; doubt = none.1; small = vote.small; known = known _ })
          ]

      of : (o : Option Vote) → vote_at k (now % 2 ^ 32) ≡ o → KnowsTruly edges now k.clock (clock_by k.clock k.table s (now % 2 ^ 32) o)
      of None e = own (edges_own s.pace k.state.edge_us (now % 2 ^ 32)) refl
      of (Some v) e = by_true v (true_vote v e) (edges_to_vote k.state.edge_us v.edge_us) refl

  hears_on : (tick port rise width : ℕ) (k : Keeping) → KnowsTruly edges tick k.clock k.state → KnowsTruly edges tick (after_pulse k port (rise % 2 ^ 32) width).clock (after_pulse k port (rise % 2 ^ 32) width).state
  hears_on tick port rise width k h = elim (cases_Bool (is_pulse width)) [ inl narrow ↦ rw narrow (record { strays = h.strays; doubt = h.doubt; small = h.small; known = h.known }) | inr wide ↦ rw wide h ]

  pub knows_on : KnowsTruly edges start new.clock new.state → (calls : List Call) → AreInOrder start new.clock.redundancy calls → AreTrueAtTicks IsTrue (f_of new.clock.redundancy) calls → KnowsTruly edges (last_tick start calls) (after_calls new calls).clock (after_calls new calls).state
  knows_on from [] order truth = from
  knows_on from (Hear port rise width ∷ calls) order truth = hears_on (last_tick start calls) port rise width (after_calls new calls) (knows_on from calls order.2 truth)
  knows_on from (Tick now ∷ calls) order truth = knows_tick calls now order truth.0 (knows_on from calls order.3 truth.1)

-- a line that is true by such seconds has even frames
pub even_lately : (within : Within) (rules : Rules) (t : TimelineValue) (d : ℕ) (edges : ℕ → ℕ) → IsQuartz d edges → AreEvenAlways (IsTrueLately within.us rules t edges) within.us d
even_lately within rules t d edges steady now end pulses is late on last soon = frame_is_even within rules t d edges steady now end pulses is late on last soon

-- from the beginning: no vote ever contradicts those before it, no frames tell that the counter is
-- unsteady, and nothing is in doubt
module _ (IsTrue : Rules → TimelineValue → (ℕ → ℕ) → ℕ → List Pulse → Type 0) (t : TimelineValue) (edges : ℕ → ℕ) (made : Made) (start : ℕ) (calls : List Call) (truly : TellAlwaysTruly (IsTrue made.rules t edges) made.clock made.rules t edges 0 0)
    (evenly : AreEvenAlways (IsTrue made.rules t edges) made.clock.within.us made.clock.drift_us) (lives : LivesTruly IsTrue t edges made start calls) where
  keeps_none : (i : ℕ) → i < 5 → (line_at made.lines i).frame ≡ None
  keeps_none i low = (each_new made.lines made.fresh i low).frame

  pub knows_so : KnowsTruly edges (last_tick start calls) (life_of made calls).clock (life_of made calls).state
  knows_so = knows_on t edges (device_of made) start (begins made.rules made.clock made.table made.lines start made.fresh) keeps_none lives.is (IsTrue made.rules t edges) truly evenly lives.learns (record { strays = refl; doubt = refl; small = omega arith; known = (refl, refl) }) calls lives.order lives.truth

  pub no_strays : (life_of made calls).state.strays ≡ 0
  no_strays = knows_so.strays

-- so of lines that are true by the seconds of UTC
module _ (t : TimelineValue) (edges : ℕ → ℕ) (made : Made) (start : ℕ) (calls : List Call) (lives : LivesTruly (IsTrueLately made.clock.within.us) t edges made start calls) where
  pub knows : KnowsTruly edges (last_tick start calls) (life_of made calls).clock (life_of made calls).state
  knows =
      knows_so (IsTrueLately made.clock.within.us) t edges made start calls
      (λ now half end pulses claim line frame soon. true_by_any made.clock made.rules t made.clock.drift_us edges half now end pulses claim lives.is.steady line frame soon)
      (even_lately made.clock.within made.rules t made.clock.drift_us edges lives.is.steady) lives

  pub never_strays : (life_of made calls).state.strays ≡ 0
  never_strays = knows.strays

  pub never_doubts : (life_of made calls).state.doubt ≡ 0
  never_doubts = knows.doubt

-- at a tick of such a life the counter is not found unsteady
pub never_unsteady : (t : TimelineValue) (edges : ℕ → ℕ) (made : Made) (start : ℕ) (calls : List Call) (now : ℕ) → LivesTruly (IsTrueLately made.clock.within.us) t edges made start (Tick now ∷ calls) → is_unsteady (life_of made calls).clock (life_of made calls).state (now % 2 ^ 32) ≡ false
never_unsteady t edges made start calls now lives =
    stays_steady (device_of made) start (begins made.rules made.clock made.table made.lines start made.fresh) (λ i low. (each_new made.lines made.fresh i low).frame) (IsTrueLately made.clock.within.us made.rules t edges) lives.is.steady.few (even_lately made.clock.within made.rules t made.clock.drift_us edges lives.is.steady) calls now lives.order lives.truth.0
