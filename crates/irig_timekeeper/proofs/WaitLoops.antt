-- A device that ticks when `wait` says announces.
use Rattle.std.specs.Prelude.{◌==◌, min, nat_lt, nat_le, count_by}
use Rattle.std.proofs.Common.{◌≡◌, ◌∙◌, ◌⊎◌, ℕ, ◌+◌, ◌-◌, ◌%◌, ◌^◌, ◌<◌, ◌≤◌, Bool, true, false, cond, List, [], ◌∷◌, ◌++◌, Option, Some, None, refl, sym, ap, subst, arith, inl, inr}
use Rattle.std.proofs.lemmas.Bool.{cases_Bool, cases_lt, eq-eqb, eqb-false, eqb-true, ltb-true, leb-true, leb-false}
use Rattle.std.proofs.lemmas.List.{append_assoc}
use Rattle.irig_sync.specs.Sync.{clock_gap}
use Rattle.irig_sync.specs.Lines.{Pulse, IsAfter}
use Rattle.irig_time.specs.declared.second.UtcSecond.{UtcSecond}
use Rattle.irig_time.specs.Timelines.{IsSecond, TimelineValue}
use Rattle.irig_vote.specs.Vote.{f_of, ports_in}
use Rattle.irig_lines.specs.declared.lines.KeptClaim.{KeptClaim}
use Rattle.irig_lines.specs.declared.lines.Lines.{Lines}
use Rattle.irig_lines.specs.declared.lines.Vote.{Vote}
use Rattle.irig_lines.specs.declared.setup.ClockRules.{ClockRules}
use Rattle.irig_lines.specs.Edges.{IsQuartz}
use Rattle.irig_lines.specs.Exactness.{end_off_us}
use Rattle.irig_lines.specs.Widths.{reach_us}
use Rattle.irig_lines.specs.Lines.{IsTrueLately, IfKept}
use Rattle.irig_lines.specs.Steps.{is_pulse, line_at, settled, claim_kept, all_kept, first_us, last_us, agrees, agreed, wait_by}
use Rattle.irig_timekeeper.specs.Keeping.{Keeping, place_told, vote_at, wait_at}
use Rattle.irig_timekeeper.specs.Life.{Made, device_of, Call, after_calls, pulses_on, last_tick, HaveRisen, AreInOrder, AreTrueOver}
use Rattle.irig_timekeeper.specs.Life.Call.{Hear, Tick}
use Rattle.irig_timekeeper.specs.Announcing.{Announces, ComesWhole}
use Rattle.irig_timekeeper.specs.Loops.{ComeInARow, AreToldInTime, made_at, latest, AreMadeInTurn, named, IsSoonEnough, GoesByWait, served_by, IsSoonBehind, GoesByLastWait}
use Rattle.irig_lines.proofs.LineLaws.{true_by_any}
use Rattle.irig_lines.proofs.AgreeLaws.{is_one}
use Rattle.irig_lines.proofs.PartLaws.{IsHalf, half_kept, one_more, agreeing_is, agreed_first, vote_of}
use Rattle.irig_lines.proofs.WidthLaws.{widest_few, reach_few}
use Rattle.irig_timekeeper.proofs.VoteLaws.{still, exact_time, frame_settled}
use Rattle.irig_timekeeper.proofs.LifeLaws.{begins, AreLinesAt, IsEndAt, TellAlwaysTruly, lines_after, own_pulses, others_pulses, no_pulse, unheard, order_before}
use Rattle.irig_lines.proofs.WholeLaws.{whole_of, nothing_whole}
use Rattle.irig_timekeeper.proofs.OrderLaws.{shared, silent_line, kept_of_nothing, ranged, lies_about}
use Rattle.irig_timekeeper.proofs.FrameLaws.{place_is, ends_whole, HaveNoVotes, Keeps, ended, not_before, whole_kept}
use Rattle.irig_timekeeper.proofs.EnoughLaws.{least_of, kept, some_agree}
use Rattle.irig_timekeeper.proofs.LoopLaws.{loop_announces, Splits, truth_splits, turn_splits, last_on, first_tick, one_less, told_before, IsStep, AreServing}
use Rattle.irig_timekeeper.specs.Truth.{FollowsTruth}

-- the latest call is not before any
pub latest_upto : (start : ℕ) (call : Call) (calls : List Call) → (latest start calls ≤ latest start (call ∷ calls)) × (made_at call ≤ latest start (call ∷ calls))
latest_upto start call calls = elim (cases_Bool (nat_le (made_at call) (latest start calls))) [
  | inl low ↦ rw low (omega arith, leb-true (made_at call) (latest start calls) low)
  | inr high ↦ rw high (let more = leb-false (made_at call) (latest start calls) high in (omega (arith, more), omega arith))
]

pub latest_by : (start time : ℕ) (call : Call) (calls : List Call) → latest start calls ≤ time → made_at call ≤ time → latest start (call ∷ calls) ≤ time
latest_by start time call calls low made = elim (cases_Bool (nat_le (made_at call) (latest start calls))) [ inl less ↦ rw less low | inr more ↦ rw more made ]

after_by : (pulses : List Pulse) (time now : ℕ) → IsAfter pulses time → time ≤ now → IsAfter pulses now
after_by [] time now after past = tt
after_by (p ∷ ps) time now after past = omega (arith, after, past)

-- so by then all has risen that was told, and the last tick came
by_latest : (start time : ℕ) (calls : List Call) → latest start calls ≤ time → HaveRisen time calls × (last_tick start calls ≤ time)
by_latest start time [] low = (λ i. tt, low)
by_latest start time (Tick now ∷ calls) low =
    let more = latest_upto start (Tick now) calls in
    ((by_latest start time calls (omega (arith, more.0, low))).0, omega (arith, more.1, low))
by_latest start time (Hear port rise width ∷ calls) low =
    let more = latest_upto start (Hear port rise width) calls in
    let rest = by_latest start time calls (omega (arith, more.0, low)) in (
      λ i. (elim (cases_Bool (i == port)) [
        | inr other ↦ subst (λ (ps : List Pulse). IsAfter ps time) (sym (others_pulses i port rise width calls other)) (rest.0 i)
        | inl same ↦ elim (cases_Bool (is_pulse width)) [
          | inr wide ↦ subst (λ (ps : List Pulse). IsAfter ps time) (sym (no_pulse i port rise width calls wide)) (rest.0 i)
          | inl narrow ↦ subst (λ (ps : List Pulse). IsAfter ps time) (sym (own_pulses i port rise width calls narrow same)) (let upto : rise ≤ time = omega (arith, more.1, low) in upto)
        ]
      ]),
      rest.1,
    )

-- what is made in turn is told in time
pub told_in_turn : (start : ℕ) (x base : List Call) → AreMadeInTurn start x base → AreToldInTime start x base
told_in_turn start [] base turn = tt
told_in_turn start (Tick now ∷ x) base turn = told_in_turn start x base turn.1
told_in_turn start (Hear port rise width ∷ x) base turn = ((by_latest start (rise + width + 3000) (x ++ base) turn.0).1, told_in_turn start x base turn.1)

-- by a vote whose edge lies at a time it names no later one
named_by : (time edge : ℕ) (o : Option ℕ) (v : Vote) → v.edge_us ≡ edge % 2 ^ 32 → edge ≤ time + 17000 → time ≤ edge + 103000 → (time + wait_by (time % 2 ^ 32) o (Some v) ≤ time) ⊎ (time + wait_by (time % 2 ^ 32) o (Some v) ≤ edge)
named_by time edge o v at ahead behind = of (nat_lt (clock_gap (time % 2 ^ 32) v.edge_us) (2 ^ 31)) refl
  where
    gap : (e : ℕ) → e ≡ edge % 2 ^ 32 → clock_gap (time % 2 ^ 32) e < 2 ^ 31 → time + clock_gap (time % 2 ^ 32) e ≤ edge
    gap e clock low = omega (arith, clock, ahead, behind, low)

    of : (test : Bool) → nat_lt (clock_gap (time % 2 ^ 32) v.edge_us) (2 ^ 31) ≡ test → (time + cond test (clock_gap (time % 2 ^ 32) v.edge_us) 0 ≤ time) ⊎ (time + cond test (clock_gap (time % 2 ^ 32) v.edge_us) 0 ≤ edge)
    of true e = inr (gap v.edge_us at (ltb-true (clock_gap (time % 2 ^ 32) v.edge_us) (2 ^ 31) e))
    of false e = inl (omega arith)

-- a device that keeps the frames, asked at a time up to that of a tick that may come then
module _ (t : TimelineValue) (edges : ℕ → ℕ) (new : Keeping) (quartz : IsQuartz new.clock.drift_us edges) (start : ℕ) (begun : AreLinesAt new new (λ i. []) start start) (m : ℕ) (some : 1 ≤ m) (older : List Call) (told : ℕ) (risen : HaveRisen told older) (past : told + 11000 < edges m)
    (calls : List Call) (then : ℕ) (order : AreInOrder start new.clock.redundancy (Tick then ∷ calls)) (time : ℕ) (upto : time ≤ edges m + 98000) (come : ComesWhole t edges new m calls)
    (keeps : (i : ℕ) (small : i < 5) → come.whole i ≡ true → Keeps t edges new quartz start begun i small m older told risen past calls) (ahead : (i : ℕ) (small : i < 5) (is : come.whole i ≡ true) → (keeps i small is).end ≤ time + 14000) where
  abbrev lines : Lines
  lines = settled (time % 2 ^ 32) (after_calls new calls).state.lines

  -- a vote that shares a line with the frames of an edge lies at most so far from it
  abbrev off : ℕ
  off = end_off_us new.clock.within.us new.clock.drift_us + reach_us new.clock

  -- a line that is not there sends no frame
  none_there : (i : ℕ) → i < 5 → ports_in new.clock.redundancy ≤ i → come.whole i ≡ false
  none_there i small far = elim (cases_Bool (come.whole i)) [
    | inr not ↦ not
    | inl is ↦
        let k = keeps i small is in
        let nothing : pulses_on i calls ≡ [] = silent_line start new.clock.redundancy i far calls order.3 in
        let none : k.end ≡ 0 = k.is ∙ ap whole_of nothing ∙ nothing_whole in
        absurd (omega (arith, none, k.least, past))
  ]

  -- what a line keeps then
  raw : (i : ℕ) → i < 5 → (y : KeptClaim) → claim_kept new.clock (line_at lines i).frame ≡ Some y → claim_kept new.clock (line_at (after_calls new calls).state.lines i).frame ≡ Some y
  raw i small y e = (still new.clock (time % 2 ^ 32) (line_at (after_calls new calls).state.lines i).frame y (ap (claim_kept new.clock) (sym (frame_settled (time % 2 ^ 32) (after_calls new calls).state.lines i small)) ∙ e)).0

  -- by the rules that it had from the start
  line_kept : (i : ℕ) → i < 5 → IfKept (IsEndAt (pulses_on i calls) (last_tick start calls) then) new.clock (after_calls new calls).rules (claim_kept new.clock (line_at (after_calls new calls).state.lines i).frame) (pulses_on i calls)
  line_kept i small =
      let l = lines_after new start begun calls then order in
      subst (λ (c : ClockRules). IfKept (IsEndAt (pulses_on i calls) (last_tick start calls) then) c (after_calls new calls).rules (claim_kept c (line_at (after_calls new calls).state.lines i).frame) (pulses_on i calls)) l.same.clock (l.lines i small).kept

  IsRanged : KeptClaim → Type 0
  IsRanged y = (y.end_us < 2 ^ 32) × IsHalf new.clock y

  in_range : (i : ℕ) → i < 5 → (y : KeptClaim) → claim_kept new.clock (line_at lines i).frame ≡ Some y → IsRanged y
  unfolding IsRanged
  in_range i small y e =
      let kept = raw i small y e in (
        ranged (IsEndAt (pulses_on i calls) (last_tick start calls) then) new.clock (after_calls new calls).rules (claim_kept new.clock (line_at (after_calls new calls).state.lines i).frame) (pulses_on i calls) y (line_kept i small) kept,
        half_kept new.clock (line_at (after_calls new calls).state.lines i).frame y kept,
      )

  none_agrees : (x : KeptClaim) (i : ℕ) → i < 5 → ports_in new.clock.redundancy ≤ i → agrees x (claim_kept new.clock (line_at lines i).frame) ≡ false
  none_agrees x i small far = of (claim_kept new.clock (line_at lines i).frame) refl
    where
      of : (o : Option KeptClaim) → claim_kept new.clock (line_at lines i).frame ≡ o → agrees x o ≡ false
      of None e = refl
      of (Some y) e =
          let none = kept_of_nothing (IsEndAt (pulses_on i calls) (last_tick start calls) then) new.clock (after_calls new calls).rules (claim_kept new.clock (line_at (after_calls new calls).state.lines i).frame) (pulses_on i calls) (silent_line start new.clock.redundancy i far calls order.3) (line_kept i small) in
          absurd (let both : None ≡ Some y = sym none ∙ raw i small y e in cc)

  -- its last time comes about with the end of a frame of these, and its edge lies about that
  record LiesNear (v : Vote) : Type 0 where
    edge : ℕ
    clock : v.edge_us ≡ edge % 2 ^ 32
    least : edges m ≤ edge + off
    most : edge ≤ edges m + off
    not_far : edge ≤ time + 17000

  lies_near : (v : Vote) → agreed new.clock lines ≡ Some v → LiesNear v
  unfolding IsRanged
  lies_near v e =
      let all = all_kept new.clock lines in
      let f = f_of new.clock.redundancy in
      let first = agreed_first new.clock lines v e in
      let x = first.0 in
      let one = is_one IsRanged (reach_us new.clock) f all all x
      (one_more IsRanged _ _ (in_range 0 (omega arith))
      (one_more IsRanged _ _ (in_range 1 (omega arith))
      (one_more IsRanged _ _ (in_range 2 (omega arith))
      (one_more IsRanged _ _ (in_range 3 (omega arith))
      (one_more IsRanged _ _ (in_range 4 (omega arith)) tt)))))
      first.1 in
      let counted = ltb-true f (count_by (agrees x) all) one.0 in
      let there = shared new.clock.redundancy come.whole (λ i. agrees x (claim_kept new.clock (line_at lines i).frame)) none_there (none_agrees x) come.many (omega (arith, counted)) in
      let k = keeps there.0 there.1 there.2 in
      let keeps_it = kept t edges new quartz start begun m some older told risen past calls time upto come.whole come.many keeps ahead there.0 there.1 there.2 in
      let y : KeptClaim = record { claim = k.claim; end_us = k.end % 2 ^ 32; half_us = k.half } in
      let agree : agrees x (Some y) ≡ true = subst (λ (o : Option KeptClaim). agrees x o ≡ true) keeps_it there.3 in
      let near = (agreeing_is x y agree).1 in
      let few = widest_few new.clock in
      let narrow = new.clock.within.few in
      let half : k.half ≤ 1449 = omega (arith, k.half_of.1, few) in
      let low : 5000 ≤ k.end = omega (arith, k.least, past, narrow, quartz.few) in
      let gap : ℕ = clock_gap (first_us y) (last_us x) in
      let lies = lies_about new.clock all v x (vote_of new.clock lines v x one.0 first.2) (k.end - k.half + gap) (exact_time (last_us x) (k.end - k.half) (first_us y) (omega arith) (first_at k.end k.half (omega (arith, half, low)) half)) (omega (arith, half, low)) in
      record {
        edge = lies.edge;
        clock = lies.clock;
        least = omega (arith, k.least, near, lies.least, half, low, k.half_of.1);
        most = omega (arith, k.most, lies.most, near, half, low, k.half_of.1);
        not_far = omega (arith, ahead there.0 there.1 there.2, lies.most, near, few, half, low);
      }
    where
      first_at : (end half : ℕ) → half ≤ end → half ≤ 1449 → (end % 2 ^ 32 + 2 ^ 32 - half) % 2 ^ 32 ≡ (end - half) % 2 ^ 32
      first_at end half some narrow = omega (arith, some, narrow)

  -- with the frames told it names no time that lies far behind the edge
  names_soon : (time + wait_at (after_calls new calls) (time % 2 ^ 32) ≤ time) ⊎ (time + wait_at (after_calls new calls) (time % 2 ^ 32) ≤ edges m + off)
  names_soon =
      let k : Keeping = after_calls new calls in
      let v = some_agree t edges new quartz start begun m some older told risen past calls time upto come.whole come.many keeps ahead in
      let lies = lies_near v.0 v.1 in
      let same = (lines_after new start begun calls then order).same.clock in
      let agree : agreed k.clock lines ≡ Some v.0 = ap (λ (c : ClockRules). agreed c lines) same ∙ v.1 in
      let wait : wait_at k (time % 2 ^ 32) ≡ wait_by (time % 2 ^ 32) k.state.edge_us (Some v.0) = ap (wait_by (time % 2 ^ 32) k.state.edge_us) agree in
      elim (named_by time lies.edge k.state.edge_us v.0 lies.clock lies.not_far (omega (arith, upto, lies.least, reach_few new.clock, new.clock.within.few, quartz.few))) [
        | inl early ↦ inl (omega (arith, wait, early))
        | inr late ↦ inr (omega (arith, wait, late, lies.most))
      ]

module _ (IsTrue : ℕ → List Pulse → Type 0) (t : TimelineValue) (edges : ℕ → ℕ) (new : Keeping) (quartz : IsQuartz new.clock.drift_us edges) (start : ℕ) (begun : AreLinesAt new new (λ i. []) start start) (late : ℕ) (few : late ≤ 94000) where
  abbrev pub Waits : List Call → List Call → Type 0
  Waits calls before = AreMadeInTurn start calls before × GoesByLastWait late new calls before

  goes_split : Splits (GoesByLastWait late new)
  goes_split [] z before goes = (tt, goes)
  goes_split (Hear port rise width ∷ x) z before goes = goes_split x z before goes
  goes_split (Tick now ∷ x) z before goes =
      let rest = goes_split x z before goes.1 in
      ((soon x now goes.0, rest.0), rest.1)
    where
      -- of the newer part alone no more is asked
      soon : (x : List Call) (time : ℕ) → IsSoonBehind late new time (x ++ z) before → IsSoonBehind late new time x (z ++ before)
      soon [] time s = tt
      soon (Tick last ∷ x) time s = subst (λ (c : List Call). time ≤ named new c (Tick last) + late) (append_assoc x z before) s
      soon (Hear port rise width ∷ x) time s = (
        subst (λ (c : List Call). place_told (after_calls new c) port (rise % 2 ^ 32) width ≡ 100 → time ≤ named new c (Hear port rise width) + late) (append_assoc x z before) s.0,
        subst (λ (c : List Call). IsSoonBehind late new (served_by new c port rise width time) x (z ++ before)) (append_assoc x z before) (soon x (served_by new ((x ++ z) ++ before) port rise width time) s.1),
      )

  pub waits_split : Splits Waits
  waits_split x z before waits =
      let turn = turn_splits start x z before waits.0 in
      let goes = goes_split x z before waits.1 in
      ((turn.0, goes.0), (turn.1, goes.1))

  module _ (m : ℕ) (some : 1 ≤ m) (done : List Call) (told : ℕ) (risen : HaveRisen told done) (ticked : last_tick start done ≤ told) (past : told + 11000 < edges m) where
    -- a tick with a vote near the edge, or none
    record HasVoted (y : List Call) : Type 0 where
      x : List Call
      time : ℕ
      z : List Call
      are : y ≡ x ++ (Tick time ∷ z)
      near : edges m ≤ time + 17000
      v : Vote
      voted : vote_at (after_calls new (z ++ done)) (time % 2 ^ 32) ≡ Some v

    voted_on : (call : Call) (y : List Call) → HasVoted y → HasVoted (call ∷ y)
    voted_on call y h = record { x = call ∷ h.x; time = h.time; z = h.z; are = ap (λ (c : List Call). call ∷ c) h.are; near = h.near; v = h.v; voted = h.voted }

    find : (y : List Call) → HaveNoVotes new (edges m - 17000) y done ⊎ HasVoted y
    find [] = inl tt
    find (Hear port rise width ∷ y) = elim (find y) [ inl none ↦ inl none | inr h ↦ inr (voted_on (Hear port rise width) y h) ]
    find (Tick time ∷ y) = elim (find y) [
      | inr h ↦ inr (voted_on (Tick time) y h)
      | inl none ↦ by none (vote_at (after_calls new (y ++ done)) (time % 2 ^ 32)) refl
    ]
      where
        by : HaveNoVotes new (edges m - 17000) y done → (o : Option Vote) → vote_at (after_calls new (y ++ done)) (time % 2 ^ 32) ≡ o → HaveNoVotes new (edges m - 17000) (Tick time ∷ y) done ⊎ HasVoted (Tick time ∷ y)
        by none None e = inl ((λ _. e), none)
        by none (Some v) e = elim (cases_lt (time + 17000) (edges m)) [
          | inl before ↦ inl ((λ from. absurd (omega (arith, from, before))), none)
          | inr behind ↦ inr (record { x = []; time = time; z = y; are = refl; near = behind; v = v; voted = e })
        ]

    -- the frames are not told before these calls
    some_line : (calls : List Call) → (come : ComesWhole t edges new m calls) → (i : ℕ) × (i < 5) × (come.whole i ≡ true)
    some_line calls come =
        let one = least_of come.whole (λ i. i) 0 5 (omega (arith, come.many)) in
        let same : 0 + one.i ≡ one.i = omega arith in
        (one.i, one.low, subst (λ (i : ℕ). come.whole i ≡ true) same one.at)

    -- the next tick comes soon behind the edge
    module _ (now : ℕ) (behind : edges m + 3000 ≤ now) where
      -- by some pulse of these calls the frames are whole
      whole_by : (y : List Call) (then : ℕ) → AreInOrder start new.clock.redundancy (Tick then ∷ (y ++ done)) → ComesWhole t edges new m (y ++ done) → edges m ≤ latest start (y ++ done) + 3950
      whole_by [] then order come =
          let one = some_line done come in
          let w = come.frames one.0 one.1 one.2 in
          let sorted = ((lines_after new start begun done then order).lines one.0 one.1).sorted in
          absurd (not_before t edges new quartz start begun one.0 one.1 m done told risen past w.0 (pulses_on one.0 done) sorted (risen one.0) w.1)
      whole_by (Tick time ∷ y) then order come =
          let before = whole_by y time order.3 (record { whole = come.whole; many = come.many; frames = come.frames }) in
          let more = latest_upto start (Tick time) (y ++ done) in
          omega (arith, before, more.0)
      whole_by (Hear port rise width ∷ y) then order come =
          let more = latest_upto start (Hear port rise width) (y ++ done) in
          elim (one_less t new.clock.drift_us edges quartz new m port rise width (y ++ done) come) [
            | inl less ↦ (let before = whole_by y then (unheard start new.clock.redundancy port rise width then (y ++ done) order) less in omega (arith, before, more.0))
            | inr last ↦ omega (arith, last.least, more.1)
          ]

      -- from these calls on, behind which they keep the frames, a time is named
      named_near : (y : List Call) (time then : ℕ) → AreInOrder start new.clock.redundancy (Tick then ∷ (y ++ done)) → HaveNoVotes new (edges m - 17000) y done → then ≤ edges m + 98000 → time ≤ edges m + 98000 → (then ≤ time) ⊎ (edges m ≤ time + 6950) → ComesWhole t edges new m (y ++ done)
          → (time + wait_at (after_calls new (y ++ done)) (time % 2 ^ 32) ≤ time) ⊎ (time + wait_at (after_calls new (y ++ done)) (time % 2 ^ 32) ≤ edges m + (end_off_us new.clock.within.us new.clock.drift_us + reach_us new.clock))
      named_near y time then order none low upto behind come =
          names_soon t edges new quartz start begun m some done told risen past (y ++ done) then order time upto come keeps (λ i small is. ahead i (keeps i small is))
        where
          keeps : (i : ℕ) (small : i < 5) → come.whole i ≡ true → Keeps t edges new quartz start begun i small m done told risen past (y ++ done)
          keeps i small is = (let w = come.frames i small is in whole_kept t edges new quartz start begun i small m done told risen past y then order none low w.0 w.1)

          ahead : (i : ℕ) {small : i < 5} → (k : Keeps t edges new quartz start begun i small m done told risen past (y ++ done)) → k.end ≤ time + 14000
          ahead i {small} k = elim behind [
            | inl same ↦ (let end = ended t edges new quartz start begun i small m done told risen past (y ++ done) then order in omega (arith, k.is, end, same))
            | inr near ↦ omega (arith, k.most, near, new.clock.within.few, quartz.few)
          ]

      -- by what is named before 3 ms behind the edge
      by_named : (at : ℕ) (y : List Call) (time then : ℕ) → AreInOrder start new.clock.redundancy (Tick then ∷ (y ++ done)) → HaveNoVotes new (edges m - 17000) y done → then ≤ edges m + 3000 → time ≤ then → (then ≤ time) ⊎ (edges m ≤ time + 6950) → ComesWhole t edges new m (y ++ done)
          → at ≤ time + wait_at (after_calls new (y ++ done)) (time % 2 ^ 32) + late → at ≤ edges m + 4000 + late
      by_named at y time then order none low upto behind come soon =
          elim (named_near y time then order none (omega (arith, low)) (omega (arith, low, upto)) behind come) [
            | inl early ↦ omega (arith, soon, early, low, upto)
            | inr end ↦ omega (arith, soon, end, reach_few new.clock, new.clock.within.few, quartz.few)
          ]

      -- by what is named behind a pulse that is not the last of these frames
      by_later : (at port rise width : ℕ) (y : List Call) → AreInOrder start new.clock.redundancy (Tick now ∷ (Hear port rise width ∷ (y ++ done))) → HaveNoVotes new (edges m - 17000) y done → last_tick start (y ++ done) < edges m + 3000 → latest start (y ++ done) ≤ rise + width + 3000
          → edges m ≤ latest start (y ++ done) + 3950 → ComesWhole t edges new m (Hear port rise width ∷ (y ++ done)) → rise + width ≤ edges m + 4000 + late
          → 1 ≤ wait_at (after_calls new (Hear port rise width ∷ (y ++ done))) ((rise + width) % 2 ^ 32) → at ≤ named new (y ++ done) (Hear port rise width) + late → at ≤ edges m + 4000 + late
      by_later at port rise width y order none early turn whole come near ahead soon =
          let then = tick_then in
          elim (named_near (Hear port rise width ∷ y) (rise + width) then.0 then.1 none then.2 (omega (arith, near, few)) (inr (omega (arith, turn, whole))) come) [
            | inl over ↦ absurd (omega (arith, over, ahead))
            | inr end ↦ omega (arith, soon, end, reach_few new.clock, new.clock.within.few, quartz.few)
          ]
        where
          -- a tick that may come by 98 ms behind the edge
          tick_then : (then : ℕ) × AreInOrder start new.clock.redundancy (Tick then ∷ (Hear port rise width ∷ (y ++ done))) × (then ≤ edges m + 98000)
          tick_then = elim (cases_lt now (edges m + 98000)) [
            | inl less ↦ (now, order, omega (arith, less))
            | inr more ↦
                let all = by_latest start (rise + width + 3000) (Hear port rise width ∷ (y ++ done)) (latest_by start (rise + width + 3000) (Hear port rise width) (y ++ done) turn (omega arith)) in
                (edges m + 98000, (omega (arith, early), omega (arith, order.1, more), (λ line. after_by (pulses_on line (Hear port rise width ∷ (y ++ done))) (rise + width + 3000) (edges m + 98000 + 4000) (all.0 line) (omega (arith, near, few))), order.3), omega arith)
          ]

      put_off : (at port rise width : ℕ) (y : List Call) → AreInOrder start new.clock.redundancy (Tick now ∷ (Hear port rise width ∷ (y ++ done))) → HaveNoVotes new (edges m - 17000) y done → last_tick start (y ++ done) < edges m + 3000 → latest start (y ++ done) ≤ rise + width + 3000
          → edges m ≤ latest start (y ++ done) + 3950 → ComesWhole t edges new m (Hear port rise width ∷ (y ++ done)) → (place_told (after_calls new (y ++ done)) port (rise % 2 ^ 32) width ≡ 100 → at ≤ named new (y ++ done) (Hear port rise width) + late)
          → served_by new (y ++ done) port rise width at ≤ edges m + 4000 + late → at ≤ edges m + 4000 + late
      put_off at port rise width y order none early turn whole come soon served =
          elim (cases_Bool (place_told (after_calls new (y ++ done)) port (rise % 2 ^ 32) width == 100)) [
            | inr other ↦ rw other at served
            | inl asks ↦ elim (cases_Bool (wait_at (after_calls new (Hear port rise width ∷ (y ++ done))) ((rise + width) % 2 ^ 32) == 0)) [
              | inl over ↦ rw (asks, over) at served
              | inr ahead ↦
                  let least : min at (rise + width) ≤ edges m + 4000 + late = rw (asks, ahead) at served in
                  elim (cases_lt (rise + width) at) [
                    | inr not_before ↦ omega (arith, least, not_before)
                    | inl before ↦ by_later at port rise width y order none early turn whole come (omega (arith, least, before)) (let some = eqb-false _ 0 ahead in omega (arith, some)) (soon (eqb-true _ 100 asks))
                  ]
            ]
          ]

      soon_behind : (y : List Call) (at : ℕ) → AreInOrder start new.clock.redundancy (Tick now ∷ (y ++ done)) → HaveNoVotes new (edges m - 17000) y done → last_tick start (y ++ done) < edges m + 3000 → AreMadeInTurn start y done → IsSoonBehind late new at y done → ComesWhole t edges new m (y ++ done) → at ≤ edges m + 4000 + late
      soon_behind [] at order none early turn soon come =
          let one = some_line done come in
          let w = come.frames one.0 one.1 one.2 in
          let sorted = ((lines_after new start begun done now order).lines one.0 one.1).sorted in
          absurd (not_before t edges new quartz start begun one.0 one.1 m done told risen past w.0 (pulses_on one.0 done) sorted (risen one.0) w.1)
      soon_behind (Tick time ∷ y) at order none early turn soon come =
          let again : AreInOrder start new.clock.redundancy (Tick time ∷ (Tick time ∷ (y ++ done))) = (omega arith, omega arith, order.3.2, order.3) in
          by_named at (Tick time ∷ y) time time again none (omega (arith, early)) (omega arith) (inl (omega arith)) come soon
      soon_behind (Hear port rise width ∷ y) at order none early turn soon come =
          let shorter = unheard start new.clock.redundancy port rise width now (y ++ done) order in
          elim (one_less t new.clock.drift_us edges quartz new m port rise width (y ++ done) come) [
            | inl less ↦
                put_off at port rise width y order none early turn.0 (whole_by y now shorter less) come soon.0 (soon_behind y (served_by new (y ++ done) port rise width at) shorter none early turn.1 soon.1 less)
            | inr last ↦
                let all = by_latest start (rise + width + 3000) (Hear port rise width ∷ (y ++ done)) (latest_by start (rise + width + 3000) (Hear port rise width) (y ++ done) turn.0 (omega arith)) in
                let here : AreInOrder start new.clock.redundancy (Tick (rise + width + 3000) ∷ (Hear port rise width ∷ (y ++ done))) = (all.1, omega (arith, order.1, last.most, behind), (λ line. after_by (pulses_on line (Hear port rise width ∷ (y ++ done))) (rise + width + 3000) (rise + width + 3000 + 4000) (all.0 line) (omega arith)), order.3) in
                let ends = ends_whole new.clock new.rules t new.clock.drift_us edges m (pulses_on port (Hear port rise width ∷ (y ++ done))) quartz last.whole in
                let place = place_is t edges new quartz start begun port last.small m done told risen past port rise width (y ++ done) (rise + width + 3000) here last.narrow (eq-eqb port port refl) last.whole ends in
                by_named at (Hear port rise width ∷ y) (rise + width) (rise + width + 3000) here none (omega (arith, last.most)) (omega arith) (inr (omega (arith, last.least))) come (soon.0 place)
          ]

  pub waits_serve : (m : ℕ) → 1 ≤ m → (rest done : List Call) → AreServing IsTrue t edges new start Waits m rest done → ComesWhole t edges new m (rest ++ done) → edges m + 3000 ≤ last_tick start (rest ++ done) → IsStep IsTrue t edges new start m rest done
  waits_serve m some rest done on come last =
      let r = new.clock.redundancy in
      let first = first_tick start (edges m + 3000) rest done (omega (arith, on.ticked, on.past)) last in
      let z : List Call = Tick first.now ∷ first.y in
      let joined : rest ++ done ≡ first.x ++ (z ++ done) = ap (λ (c : List Call). c ++ done) first.are ∙ append_assoc first.x z done in
      let waits = waits_split first.x z done (subst (λ (c : List Call). Waits c done) first.are on.loop) in
      let truth = (truth_splits IsTrue (f_of r) first.x z done (subst (λ (c : List Call). AreTrueOver IsTrue (f_of r) c done) first.are on.truth)).1 in
      let ordered = subst (AreInOrder start r) joined on.order in
      let here = order_before start r first.x (z ++ done) ordered in
      let in_time = told_in_turn start first.x (z ++ done) waits.0.0 in
      let told = told_before t new.clock.drift_us edges quartz new m start r first.x (z ++ done) ordered first.come in_time (subst (ComesWhole t edges new m) joined come) in
      elim (find m some done on.told on.risen on.ticked on.past first.y) [
        | inl none ↦
            let behind : ComesWhole t edges new m (first.y ++ done) = record { whole = told.whole; many = told.many; frames = told.frames } in
            let soon = soon_behind m some done on.told on.risen on.ticked on.past first.now first.come first.y first.now here none first.early waits.1.0.1 waits.1.1.0 behind in
            record {
              x = first.x;
              z = z;
              are = first.are;
              served = record {
                now = first.now;
                others = first.y;
                are = refl;
                early = omega (arith, first.early);
                soon = omega (arith, soon, few);
                comes = inl (omega (arith, first.come, reach_few new.clock, quartz.few), behind);
                truth = truth;
              };
            }
        | inr h ↦
            let voted : List Call = Tick h.time ∷ h.z in
            let parts : first.y ++ done ≡ h.x ++ (voted ++ done) = ap (λ (c : List Call). c ++ done) h.are ∙ append_assoc h.x voted done in
            let order = subst (AreInOrder start r) parts here.3 in
            let upto : h.time ≤ last_tick start (h.x ++ (voted ++ done)) = last_on start r h.x (voted ++ done) order in
            let same : last_tick start (first.y ++ done) ≡ last_tick start (h.x ++ (voted ++ done)) = ap (last_tick start) parts in
            let low : h.time < edges m + 3000 = omega (arith, upto, same, first.early) in
            let before = (order_before start r h.x (voted ++ done) order).0 in
            record {
              x = first.x ++ (Tick first.now ∷ h.x);
              z = voted;
              are = first.are ∙ ap (λ (c : List Call). first.x ++ (Tick first.now ∷ c)) h.are ∙ sym (append_assoc first.x (Tick first.now ∷ h.x) voted);
              served = record {
                now = h.time;
                others = h.z;
                are = refl;
                early = omega (arith, before, low);
                soon = omega (arith, low);
                comes = inr (h.near, (h.v, h.voted));
                truth = (truth_splits IsTrue (f_of r) h.x voted done (subst (λ (c : List Call). AreTrueOver IsTrue (f_of r) c done) h.are truth.1)).1;
              };
            }
      ]

pub asked_announces : (t : TimelineValue) (edges : ℕ → ℕ) (made : Made) (start m late : ℕ) (calls before : List Call) (u : UtcSecond) → ComeInARow (IsTrueLately made.clock.within.us) t edges made start m calls before → FollowsTruth t made.clock.prefers_frames made.table → late ≤ 94000 → GoesByLastWait late (device_of made) calls before → AreMadeInTurn start calls before
    → IsSecond t (m + 1 + made.clock.reader_rules.lock_after) u → Announces edges (device_of made) (m + 1 + made.clock.reader_rules.lock_after) u (calls ++ before)
asked_announces t edges made start m late calls before u come follows few goes turn second =
    let quartz = come.is.steady in
    let new = device_of made in
    let begun = begins made.rules made.clock made.table made.lines start made.fresh in
    let truly : TellAlwaysTruly (IsTrueLately made.clock.within.us made.rules t edges) made.clock made.rules t edges 0 0 =
    λ now half end pulses claim is_true frame soon. true_by_any made.clock made.rules t made.clock.drift_us edges half now end pulses claim quartz is_true frame soon in
    loop_announces (IsTrueLately made.clock.within.us made.rules t edges) t made.clock.drift_us edges quartz new start
    (Waits (IsTrueLately made.clock.within.us made.rules t edges) t edges new quartz start begun late few)
    (waits_split (IsTrueLately made.clock.within.us made.rules t edges) t edges new quartz start begun late few)
    (waits_serve (IsTrueLately made.clock.within.us made.rules t edges) t edges new quartz start begun late few)
    begun come.is follows truly refl m come.some come.locks calls before
    (record { told = come.told; risen = come.risen; ticked = come.ticked; past = come.past; order = come.order; truth = come.truth; loop = (turn, goes) })
    come.whole come.last u second

-- ---- what comes so soon behind each time that was named does so behind the last

pub served_upto : (new : Keeping) (calls : List Call) (port rise width time : ℕ) → served_by new calls port rise width time ≤ time
served_upto new calls port rise width time = elim (cases_Bool (place_told (after_calls new calls) port (rise % 2 ^ 32) width == 100)) [
  | inr other ↦ rw other (omega arith)
  | inl asks ↦ elim (cases_Bool (wait_at (after_calls new (Hear port rise width ∷ calls)) ((rise + width) % 2 ^ 32) == 0)) [
    | inl over ↦ rw (asks, over) (omega arith)
    | inr ahead ↦ rw (asks, ahead) (omega arith)
  ]
]

soon_last : (late : ℕ) (new : Keeping) (now time : ℕ) (calls before : List Call) → time ≤ now → IsSoonEnough late new now calls before → IsSoonBehind late new time calls before
soon_last late new now time [] before low soon = tt
soon_last late new now time (Tick last ∷ calls) before low soon = omega (arith, low, soon)
soon_last late new now time (Hear port rise width ∷ calls) before low soon = (
  λ asks. (let by = soon.0 asks in omega (arith, low, by)),
  soon_last late new now (served_by new (calls ++ before) port rise width time) calls before (omega (arith, low, served_upto new (calls ++ before) port rise width time)) soon.1,
)

goes_last : (late : ℕ) (new : Keeping) (calls before : List Call) → GoesByWait late new calls before → GoesByLastWait late new calls before
goes_last late new [] before goes = tt
goes_last late new (Hear port rise width ∷ calls) before goes = goes_last late new calls before goes
goes_last late new (Tick now ∷ calls) before goes = (soon_last late new now now calls before (omega arith) goes.0, goes_last late new calls before goes.1)

pub waiting_announces : (t : TimelineValue) (edges : ℕ → ℕ) (made : Made) (start m late : ℕ) (calls before : List Call) (u : UtcSecond) → ComeInARow (IsTrueLately made.clock.within.us) t edges made start m calls before → FollowsTruth t made.clock.prefers_frames made.table → late ≤ 94000 → GoesByWait late (device_of made) calls before → AreMadeInTurn start calls before
    → IsSecond t (m + 1 + made.clock.reader_rules.lock_after) u → Announces edges (device_of made) (m + 1 + made.clock.reader_rules.lock_after) u (calls ++ before)
waiting_announces t edges made start m late calls before u come follows few goes turn second =
    asked_announces t edges made start m late calls before u come follows few (goes_last late (device_of made) calls before goes) turn second
