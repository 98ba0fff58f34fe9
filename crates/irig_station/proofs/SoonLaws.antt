-- A second that a simulated device tells began 1.006 s ago at most, by its counter, whatever its lines
-- brought: so it is told in the second of its edge, or in one beside that.
use Rattle.std.proofs.Common.{◌≡◌, ◌∙◌, ℕ, zero, suc, ◌+◌, ◌-◌, ◌*◌, ◌/◌, ◌%◌, ◌^◌, ◌<◌, ◌≤◌, ◌==◌, Bool, true, false, List, [], ◌∷◌, Option, Some, None, refl, sym, ap, arith, inl, inr, subst, suc-mul}
use Rattle.std.specs.Prelude.{nat_lt, All, IfSome}
use Rattle.std.proofs.Math.Nat.{le-div_iff_mul-le, mul-le-mul_right}
use Rattle.std.proofs.lemmas.Bool.{cases_Bool, eqb-false, leb-true}
use Rattle.std.proofs.lemmas.List.Elements.{All-append, All-cons, All-nil}
use Rattle.irig_frame.specs.declared.symbol.Symbol.{Symbol}
use Rattle.irig_sync.specs.Sync.{clock_gap}
use Rattle.irig_time.specs.Tables.{TableValue}
use Rattle.irig_lines.specs.declared.lines.KeptClaim.{KeptClaim}
use Rattle.irig_lines.specs.declared.lines.Lines.{Lines}
use Rattle.irig_lines.specs.declared.lines.Vote.{Vote}
use Rattle.irig_lines.specs.declared.pace.Pace.{Pace}
use Rattle.irig_lines.specs.declared.rate.Rate.{Rate}
use Rattle.irig_lines.specs.declared.setup.ClockRules.{ClockRules}
use Rattle.irig_lines.specs.Counting.{edges_own, edges_to_vote, has_come}
use Rattle.irig_lines.specs.Paces.{learned, pace_on}
use Rattle.irig_lines.specs.Rates.{rate_of, serving}
use Rattle.irig_lines.specs.Steps.{agreed, all_kept, first_candidate, if_come, is_pulse, settled, vote_with}
use Rattle.irig_lines.specs.Widths.{reach_us}
use Rattle.irig_vote.specs.Vote.{f_of}
use Rattle.irig_timekeeper.specs.declared.clock.Beat.{Beat}
use Rattle.irig_timekeeper.specs.declared.clock.ClockState.{ClockState}
use Rattle.irig_timekeeper.specs.Rule.{against_table}
use Rattle.irig_timekeeper.specs.Clock.{after_own, after_vote, answer_alone, answer_by, answer_to_vote, beat_by, clock_answer, clock_by, is_unsteady, knowing_vote, learning, own_edge, pace_unless, settled_at, step_to, vote_of_lines}
use Rattle.irig_timekeeper.specs.Keeping.{Keeping, after_pulse, answer_at}
use Rattle.irig_timekeeper.specs.Life.{Call}
use Rattle.irig_timekeeper.specs.Life.Call.{Hear, Tick}
use Rattle.irig_timekeeper.specs.Lived.{MadeOf, keeping_after}
use Rattle.irig_wires.specs.declared.wires.Happening.{Happening}
use Rattle.irig_wires.specs.declared.wires.Happening.TheVariants as happens
use Rattle.irig_wires.specs.Oscillator.{counter_at}
use Rattle.irig_simulated.specs.declared.told_second.ToldSecond.{ToldSecond}
use Rattle.irig_simulated.specs.Kinds.{Kind, count}
use Rattle.irig_simulated.specs.Courses.{Course, coming, edge_near, happened, most_in, passed, played, stepped, ticked, told_count_of, told_if, told_second}

-- ---- a clock that has learned nothing

-- its last edge is one of a counter of 32 bits
pub record IsPlain (s : ClockState) : Type 0 where
  pub pace : s.pace ≡ None
  pub range : IfSome s.edge_us (λ edge. edge < 2 ^ 32)

-- a vote
vote_in : (reach d f : ℕ) (all : List (Option KeptClaim)) (o : Option KeptClaim) (v : Vote) → vote_with reach d f all o ≡ Some v → v.edge_us < 2 ^ 32
vote_in reach d f all None v e = absurd cc
vote_in reach d f all (Some x) v e = subst (λ (w : Option Vote). IfSome w (λ u. u.edge_us < 2 ^ 32)) e (omega arith)

come_is : (now : ℕ) (o : Option Vote) (v : Vote) → if_come now o ≡ Some v → (o ≡ Some v) × (clock_gap v.edge_us now ≤ 103000)
come_is now None v e = absurd cc
come_is now (Some w) v e = elim (cases_Bool (has_come w.edge_us now)) [
  | inl come ↦
      let same : w ≡ v = (let h = rw come at e in cc) in
      (ap Some same, subst (λ (u : Vote). clock_gap u.edge_us now ≤ 103000) same (leb-true (clock_gap w.edge_us now) 103000 come))
  | inr ahead ↦ absurd (let h = rw ahead at e in cc)
]

-- the own counter
own_soon : (pace : Option Pace) (o : Option ℕ) (now n : ℕ) → pace ≡ None → IfSome o (λ edge. edge < 2 ^ 32) → now < 2 ^ 32 → n ≡ edges_own pace o now → 1 ≤ n → clock_gap (own_edge pace o n) now ≤ 1006000
own_soon (Some p) o now n none range few same some = absurd cc
own_soon None None now n none range few same some = absurd (omega (arith, same, some))
own_soon None (Some e) now n none range few same some = elim (cases_Bool (nat_lt (clock_gap e now) (2 ^ 31))) [
  | inl near ↦ let counted = rw near at same in omega (arith, range, few, some, counted)
  | inr far ↦ absurd (let none : n ≡ 0 = rw far at same in omega (arith, some, none))
]

own_range : (pace : Option Pace) (o : Option ℕ) (n : ℕ) → own_edge pace o n < 2 ^ 32
own_range pace None n = omega arith
own_range pace (Some e) n = omega arith

module _ (c : ClockRules) (table : TableValue) where
  -- ---- what a tick answers

  told_alone : (s : ClockState) (n : ℕ) (b : Beat) → answer_alone c table s n ≡ Some b → (1 ≤ n) × (b.edge_us ≡ own_edge s.pace s.edge_us n)
  told_alone s n b e = elim (cases_Bool (n == 0)) [
    | inl none ↦ absurd (let h = rw none at e in cc)
    | inr more ↦
        let same : beat_by c s false (step_to c table s n None) (n - 1) (own_edge s.pace s.edge_us n) s.bound_us ≡ b = (let h = rw more at e in cc) in
        (omega (arith, eqb-false n 0 more), ap (λ (x : Beat). x.edge_us) (sym same))
  ]

  told_by_vote : (s : ClockState) (v : Vote) (n : ℕ) (b : Beat) → answer_to_vote c table s v n ≡ Some b → b.edge_us ≡ v.edge_us
  told_by_vote s v n b e = elim (cases_Bool (n == 0)) [
    | inl none ↦ absurd (let h = rw none at e in cc)
    | inr more ↦
        let same : beat_by c s (against_table table (Some v.claim)) (step_to c table s n (Some v.claim)) (n - 1) v.edge_us v.bound_us ≡ b = (let h = rw more at e in cc) in
        ap (λ (x : Beat). x.edge_us) (sym same)
  ]

  no_pace : (unsteady : Bool) (pace : Option Pace) → pace ≡ None → pace_unless unsteady pace ≡ None
  no_pace true pace none = refl
  no_pace false pace none = none

  settled_plain : (s : ClockState) (now : ℕ) → IsPlain s → IsPlain (settled_at c s now)
  settled_plain s now h = record { pace = no_pace (is_unsteady c s now) s.pace h.pace; range = h.range }

  pub answers_soon : (s : ClockState) (now : ℕ) (b : Beat) → IsPlain s → now < 2 ^ 32 → clock_answer c table s now ≡ Some b → clock_gap b.edge_us now ≤ 1006000
  answers_soon s now b h few = of (vote_of_lines c s now) refl
    where
      plain : IsPlain (settled_at c s now)
      plain = settled_plain s now h

      of : (o : Option Vote) → vote_of_lines c s now ≡ o → answer_by c table (settled_at c s now) now o ≡ Some b → clock_gap b.edge_us now ≤ 1006000
      of None voted e =
          let t = settled_at c s now in
          let told = told_alone t (edges_own t.pace t.edge_us now) b e in
          subst (λ (edge : ℕ). clock_gap edge now ≤ 1006000) (sym told.1) (own_soon t.pace t.edge_us now (edges_own t.pace t.edge_us now) plain.pace plain.range few refl told.0)
      of (Some v) voted e =
          let t = settled_at c s now in
          let come = come_is now (agreed c (settled now s.lines)) v voted in
          let told = told_by_vote t v (edges_to_vote t.edge_us v.edge_us) b e in
          subst (λ (edge : ℕ). clock_gap edge now ≤ 1006000) (sym told) (omega (arith, come.1))

  -- ---- what it leaves

  still_none : (goes_on : Bool) (n : ℕ) (pace : Option Pace) → pace ≡ None → pace_on goes_on n pace ≡ None
  still_none goes_on n None none = refl
  still_none goes_on n (Some p) none = absurd cc

  alone_plain : (s : ClockState) (n : ℕ) → IsPlain s → IsPlain (after_own c table s n)
  alone_plain s n h = elim (cases_Bool (n == 0)) [
    | inl none ↦ rw none h
    | inr more ↦ rw more (record { pace = still_none _ n s.pace h.pace; range = own_range s.pace s.edge_us n })
  ]

  nothing_learned : (o : Option Rate) → c.wander_ppb ≡ 0 → learned c o ≡ None
  nothing_learned None still = refl
  nothing_learned (Some rate) still = rw still refl

  learning_nothing : (s : ClockState) → c.wander_ppb ≡ 0 → (learning c s).pace ≡ None
  learning_nothing s still = nothing_learned (rate_of s.interval (serving s.anchors)) still

  agreed_in : (lines : Lines) (v : Vote) → agreed c lines ≡ Some v → v.edge_us < 2 ^ 32
  agreed_in lines v e = vote_in (reach_us c) c.drift_us (f_of c.redundancy) (all_kept c lines) (first_candidate (reach_us c) (f_of c.redundancy) (all_kept c lines) (all_kept c lines) None) v e

  vote_set : (s : ClockState) (v : Vote) (n : ℕ) → (after_vote c table s v n).edge_us ≡ Some v.edge_us
  vote_set s v n = elim (cases_Bool (n == 0)) [ inl none ↦ rw none refl | inr more ↦ rw more refl ]

  pub ticks_plain : (s : ClockState) (now : ℕ) → c.wander_ppb ≡ 0 → IsPlain s → IsPlain (clock_by c table (settled_at c s now) now (vote_of_lines c s now))
  ticks_plain s now still h = of (vote_of_lines c s now) refl
    where
      plain : IsPlain (settled_at c s now)
      plain = settled_plain s now h

      of : (o : Option Vote) → vote_of_lines c s now ≡ o → IsPlain (clock_by c table (settled_at c s now) now o)
      of None voted =
          let t = settled_at c s now in
          let next = alone_plain t (edges_own t.pace t.edge_us now) plain in
          record { pace = next.pace; range = next.range }
      of (Some v) voted =
          let t = settled_at c s now in
          let come = come_is now (agreed c (settled now s.lines)) v voted in
          record {
            pace = learning_nothing (knowing_vote c t v (edges_to_vote t.edge_us v.edge_us) (after_vote c table t v (edges_to_vote t.edge_us v.edge_us))) still;
            range = subst (λ (o : Option ℕ). IfSome o (λ edge. edge < 2 ^ 32)) (sym (vote_set t v (edges_to_vote t.edge_us v.edge_us))) (agreed_in (settled now s.lines) v come.0);
          }

-- ---- over calls

pub record LivesPlainly (made : MadeOf) (k : Keeping) : Type 0 where
  pub clock : k.clock ≡ made.clock
  pub state : IsPlain k.state

heard_plainly : (made : MadeOf) (k : Keeping) (port rise width : ℕ) → LivesPlainly made k → LivesPlainly made (after_pulse k port rise width)
heard_plainly made k port rise width h = elim (cases_Bool (is_pulse width)) [
  | inl narrow ↦ rw narrow (record { clock = h.clock; state = record { pace = h.state.pace; range = h.state.range } })
  | inr wide ↦ rw wide h
]

pub lives_plainly : (made : MadeOf) → made.clock.wander_ppb ≡ 0 → (calls : List Call) → LivesPlainly made (keeping_after made calls)
lives_plainly made still [] = record { clock = refl; state = record { pace = refl; range = tt } }
lives_plainly made still (Hear port rise width ∷ calls) = heard_plainly made (keeping_after made calls) port (rise % 2 ^ 32) width (lives_plainly made still calls)
lives_plainly made still (Tick now ∷ calls) =
    let k = keeping_after made calls in
    let h = lives_plainly made still calls in
    record { clock = h.clock; state = ticks_plain k.clock k.table k.state (now % 2 ^ 32) (ap (λ (c : ClockRules). c.wander_ppb) h.clock ∙ still) h.state }

-- ---- in the course of a device, from the second of an edge on

late_edge : (first rate n shown : ℕ) → 999000 ≤ rate → first + n * rate ≤ shown + 1006000 → n ≤ edge_near first rate shown + 1
late_edge first rate zero shown slow least = omega arith
late_edge first rate (suc m) shown slow least =
    let one : suc m * rate ≡ m * rate + rate = suc-mul m rate in
    let low : m * rate ≤ shown + rate / 2 - first = omega (arith, slow, least, one) in
    let some : 0 < rate = omega (arith, slow) in
    let edge : m ≤ edge_near first rate shown = (le-div_iff_mul-le some).1 low in
    omega (arith, edge)

counted_from : (first rate n time : ℕ) → n * 1000000 ≤ time → first + n * rate ≤ counter_at first rate time
counted_from first rate n time later =
    let product : n * rate * 1000000 ≤ time * rate = omega (arith, mul-le-mul_right rate later) in
    let some : 0 < 1000000 = omega arith in
    let counted : n * rate ≤ time * rate / 1000000 = (le-div_iff_mul-le some).1 product in
    omega (arith, counted)

-- a second that is told in the second of edge n, or later, is of an edge that is no more than one before
abbrev pub IsToldFrom : (n : ℕ) → ToldSecond → Type 0
IsToldFrom n told = n ≤ told.edge + 1

module _ (k : Kind) (still : k.made.clock.wander_ppb ≡ 0) (slow : 999000 ≤ k.rate) (n : ℕ) where
  told_from : (calls : List Call) (time : ℕ) (answer : Option Beat) → n * 1000000 ≤ time → answer_at (keeping_after k.made calls) (count k time % 2 ^ 32) ≡ answer → All (IsToldFrom n) (told_if k (count k time) answer)
  told_from calls time None later e = All-nil (IsToldFrom n)
  told_from calls time (Some beat) later e =
      let keeping = keeping_after k.made calls in
      let plain = (lives_plainly k.made still calls).state in
      let gap : clock_gap beat.edge_us (count k time % 2 ^ 32) ≤ 1006000 = answers_soon keeping.clock keeping.table keeping.state (count k time % 2 ^ 32) beat plain (omega arith) e in
      let least = counted_from k.first k.rate n time later in
      All-cons (IsToldFrom n) (told_second k.first k.rate (told_count_of (count k time) beat) beat) []
      (late_edge k.first k.rate n (told_count_of (count k time) beat) slow (omega (arith, gap, least))) (All-nil (IsToldFrom n))

  pub record GoesFrom (x : Course) : Type 0 where
    pub now : n * 1000000 ≤ x.now
    pub told : All (IsToldFrom n) x.told

  pub ticked_from : (x : Course) → GoesFrom x → GoesFrom (ticked k x)
  ticked_from x h = record {
    now = h.now;
    told = All-append (IsToldFrom n) x.told _ h.told (told_from x.calls x.now (answer_at (keeping_after k.made x.calls) (count k x.now % 2 ^ 32)) h.now refl);
  }

  module _ (signal : (line element : ℕ) → Option Symbol) where
    happened_from : (what : Happening) (x : Course) → GoesFrom x → GoesFrom (happened k signal what x)
    happened_from (happens.End e) x h = record { now = h.now; told = h.told }
    happened_from happens.Tick x h = ticked_from x h
    happened_from happens.Send x h = record { now = h.now; told = h.told }

    stepped_from : (x : Course) → GoesFrom x → GoesFrom (stepped k signal x)
    stepped_from x h = happened_from (coming x).what (record x { now = (coming x).time_us }) (record { now = omega (arith, h.now); told = h.told })

    played_from : (stop most : ℕ) (x : Course) → GoesFrom x → GoesFrom (played k signal stop most x)
    played_from stop zero x h = h
    played_from stop (suc most) x h = elim (cases_Bool (nat_lt (coming x).time_us stop)) [
      | inl less ↦ rw less (played_from stop most (stepped k signal x) (stepped_from x h))
      | inr done ↦ rw done h
    ]

    pub passed_from : (stop : ℕ) (x : Course) → GoesFrom x → All (IsToldFrom n) (passed k signal stop x).told
    passed_from stop x h = (played_from stop (most_in (stop - x.now)) x h).told
