-- A device in a loop announces: one that ticks at least so often, and one that ticks when `wait` says.
use Rattle.std.specs.Prelude.{◌==◌, nat_lt}
use Rattle.std.proofs.Common.{◌≡◌, ◌∙◌, ◌⊎◌, ℕ, zero, suc, ◌+◌, ◌-◌, ◌*◌, ◌<◌, ◌≤◌, Bool, true, false, cond, List, [], ◌∷◌, ◌++◌, drop, refl, sym, ap, subst, arith, inl, inr}
use Rattle.std.proofs.lemmas.Bool.{cases_Bool, cases_lt, eqb-true, eq-eqb, ltb-true, ltb-false}
use Rattle.std.proofs.lemmas.List.{append_assoc}
use Rattle.irig_frame.specs.declared.symbol.Symbol.TheVariants.{Zero, One, Marker, Bad}
use Rattle.irig_sync.specs.Sync.{is_marker, is_marker_symbol}
use Rattle.irig_sync.specs.Lines.{Pulse, pulse_at}
use Rattle.irig_time.specs.Timelines.{TimelineValue, IsSecond}
use Rattle.irig_time.specs.declared.second.UtcSecond.{UtcSecond}
use Rattle.irig_vote.specs.declared.redundancy.Redundancy.{Redundancy}
use Rattle.irig_vote.specs.Vote.{f_of}
use Rattle.irig_reader.specs.Rule.{state_of}
use Rattle.irig_lines.specs.Edges.{IsQuartz}
use Rattle.irig_lines.specs.Lines.{IsTrueLately}
use Rattle.irig_lines.specs.Steps.{is_pulse}
use Rattle.irig_timekeeper.specs.Keeping.{Keeping}
use Rattle.irig_timekeeper.specs.Truth.{IsDevice, FollowsTruth}
use Rattle.irig_timekeeper.specs.Life.{Made, device_of, Call, pulses_on, last_tick, HaveRisen, AreInOrder, AreTrueLately, AreTrueOver}
use Rattle.irig_timekeeper.specs.Life.Call.{Hear, Tick}
use Rattle.irig_timekeeper.specs.Announcing.{IsWhole, ComesWhole, Announces}
use Rattle.irig_timekeeper.specs.Loops.{ComeInARow, TicksEach, AreToldInTime, made_at, latest, AreMadeInTurn}
use Rattle.irig_lines.proofs.LineLaws.{true_by_any}
use Rattle.irig_lines.proofs.CountingLaws.{rises}
use Rattle.irig_timekeeper.proofs.LifeLaws.{begins, AreLinesAt, TellAlwaysTruly, own_pulses, others_pulses, no_pulse, order_before}
use Rattle.irig_timekeeper.proofs.FrameLaws.{ends_whole}
use Rattle.irig_timekeeper.proofs.AnnounceLaws.{IsServed, AreServed, serves}
use Rattle.irig_lines.proofs.WidthLaws.{reach_few}

-- ---- claims of calls behind others, in parts

-- of the newer of some calls, and of the older ones
abbrev pub Splits : (List Call → List Call → Type 0) → Type 0
Splits P = (x z before : List Call) → P (x ++ z) before → P x (z ++ before) × P z before

pub truth_splits : (IsTrue : ℕ → List Pulse → Type 0) (f : ℕ) → Splits (AreTrueOver IsTrue f)
truth_splits IsTrue f [] z before truth = (tt, truth)
truth_splits IsTrue f (Hear port rise width ∷ x) z before truth = truth_splits IsTrue f x z before truth
truth_splits IsTrue f (Tick now ∷ x) z before truth =
    let rest = truth_splits IsTrue f x z before truth.1 in
    ((subst (AreTrueLately IsTrue f now) (append_assoc x z before) truth.0, rest.0), rest.1)

each_splits : (most start : ℕ) → Splits (TicksEach most start)
each_splits most start [] z before each = (tt, each)
each_splits most start (Hear port rise width ∷ x) z before each = each_splits most start x z before each
each_splits most start (Tick now ∷ x) z before each =
    let rest = each_splits most start x z before each.1 in
    ((subst (λ (c : List Call). now ≤ last_tick start c + most) (append_assoc x z before) each.0, rest.0), rest.1)

told_splits : (start : ℕ) → Splits (AreToldInTime start)
told_splits start [] z before told = (tt, told)
told_splits start (Hear port rise width ∷ x) z before told =
    let rest = told_splits start x z before told.1 in
    ((subst (λ (c : List Call). last_tick start c ≤ rise + width + 3000) (append_assoc x z before) told.0, rest.0), rest.1)
told_splits start (Tick now ∷ x) z before told = told_splits start x z before told

pub turn_splits : (start : ℕ) → Splits (AreMadeInTurn start)
turn_splits start [] z before turn = (tt, turn)
turn_splits start (call ∷ x) z before turn =
    let rest = turn_splits start x z before turn.1 in
    ((subst (λ (c : List Call). latest start c ≤ made_at call + 3000) (append_assoc x z before) turn.0, rest.0), rest.1)

-- ---- the last tick

pub last_on : (start : ℕ) (r : Redundancy) (x base : List Call) → AreInOrder start r (x ++ base) → last_tick start base ≤ last_tick start (x ++ base)
last_on start r [] base order = omega arith
last_on start r (Hear port rise width ∷ x) base order = last_on start r x base order.2
last_on start r (Tick now ∷ x) base order = omega (arith, last_on start r x base order.3, order.0)

-- the first tick at a time or later
pub record IsFirstTick (start from : ℕ) (calls before : List Call) : Type 0 where
  pub x : List Call
  pub now : ℕ
  pub y : List Call
  pub are : calls ≡ x ++ (Tick now ∷ y)
  pub early : last_tick start (y ++ before) < from
  pub come : from ≤ now

pub first_tick : (start from : ℕ) (calls before : List Call) → last_tick start before < from → from ≤ last_tick start (calls ++ before) → IsFirstTick start from calls before
first_tick start from [] before early late = absurd (omega (arith, early, late))
first_tick start from (Hear port rise width ∷ calls) before early late =
    let rest = first_tick start from calls before early late in
    record { x = Hear port rise width ∷ rest.x; now = rest.now; y = rest.y; are = ap (λ (c : List Call). Hear port rise width ∷ c) rest.are; early = rest.early; come = rest.come }
first_tick start from (Tick now ∷ calls) before early late = elim (cases_lt (last_tick start (calls ++ before)) from) [
  | inl less ↦ record { x = []; now = now; y = calls; are = refl; early = less; come = late }
  | inr enough ↦
      let rest = first_tick start from calls before early enough in
      record { x = Tick now ∷ rest.x; now = rest.now; y = rest.y; are = ap (λ (c : List Call). Tick now ∷ c) rest.are; early = rest.early; come = rest.come }
]

-- ---- a marker is narrow

narrow_marker : (width : ℕ) → is_marker width ≡ true → (6500 ≤ width) × (width < 9500)
narrow_marker width e = of (nat_lt width 500) (nat_lt width 3500) (nat_lt width 6500) (nat_lt width 9500) refl refl e
  where
    of : (a b c d : Bool) → nat_lt width 6500 ≡ c → nat_lt width 9500 ≡ d → is_marker_symbol (cond a Bad (cond b Zero (cond c One (cond d Marker Bad)))) ≡ true → (6500 ≤ width) × (width < 9500)
    of true b c d p q e = absurd cc
    of false true c d p q e = absurd cc
    of false false true d p q e = absurd cc
    of false false false true p q e = (let least = ltb-false width 6500 p in omega (arith, least), ltb-true width 9500 q)
    of false false false false p q e = absurd cc

-- ---- whole frames, a call before

module _ (t : TimelineValue) (d : ℕ) (edges : ℕ → ℕ) (quartz : IsQuartz d edges) (new : Keeping) (m : ℕ) where
  abbrev Whole : ℕ → List Pulse → Type 0
  Whole late pulses = IsWhole new.clock new.rules t edges m (drop late pulses)

  -- the last pulse of one of them, which ends near the edge
  pub record IsLastOfOne (port rise width : ℕ) (calls : List Call) : Type 0 where
    pub whole : IsWhole new.clock new.rules t edges m (pulses_on port (Hear port rise width ∷ calls))
    pub small : port < 5
    pub narrow : is_pulse width ≡ true
    pub least : edges m ≤ rise + width + 3950
    pub most : rise + width + 51 ≤ edges m
    pub rose : edges m ≤ rise + 10450

  module _ (port rise width : ℕ) (calls : List Call) (come : ComesWhole t edges new m (Hear port rise width ∷ calls)) where
    HasOne : ℕ → Type 0
    HasOne i = (late : ℕ) × Whole late (pulses_on i calls)

    others : (i : ℕ) → i < 5 → come.whole i ≡ true → (i == port) ≡ false → HasOne i
    unfolding HasOne
    others i small is other = (let w = come.frames i small is in (w.0, subst (Whole w.0) (others_pulses i port rise width calls other) w.1))

    -- if the line of this pulse has its frame without it
    so_all : (come.whole port ≡ true → port < 5 → HasOne port) → ComesWhole t edges new m calls
    unfolding HasOne
    so_all own = record {
      whole = come.whole;
      many = come.many;
      frames = λ i small is. elim (cases_Bool (i == port)) [
        | inr other ↦ others i small is other
        | inl same ↦
            let at : i ≡ port = eqb-true i port same in
            subst HasOne (sym at) (own (subst (λ (j : ℕ). come.whole j ≡ true) at is) (omega (arith, at, small)))
      ];
    }

    module _ (narrow : is_pulse width ≡ true) where
      on : pulses_on port (Hear port rise width ∷ calls) ≡ pulse_at rise width ∷ pulses_on port calls
      on = own_pulses port port rise width calls narrow (eq-eqb port port refl)

      is_last : port < 5 → (w : IsWhole new.clock new.rules t edges m (pulse_at rise width ∷ pulses_on port calls)) → IsLastOfOne port rise width calls
      is_last small w =
          let ends = ends_whole new.clock new.rules t d edges m (pulse_at rise width ∷ pulses_on port calls) quartz w in
          let head : pulse_at rise width ≡ ends.p = (let e = ends.are in cc) in
          let rises : rise ≡ ends.p.rise = ap (λ (q : Pulse). q.rise) head in
          let marker = narrow_marker width (subst (λ (q : Pulse). is_marker q.width ≡ true) (sym head) ends.marker) in
          record {
            whole = subst (IsWhole new.clock new.rules t edges m) (sym on) w;
            small = small;
            narrow = narrow;
            least = omega (arith, rises, ends.least, marker.0, new.clock.within.few, quartz.few);
            most = omega (arith, rises, ends.most, marker.1, new.clock.within.few, quartz.few);
            rose = omega (arith, rises, ends.least, new.clock.within.few, quartz.few);
          }

      by : port < 5 → (late : ℕ) → Whole late (pulse_at rise width ∷ pulses_on port calls) → ComesWhole t edges new m calls ⊎ IsLastOfOne port rise width calls
      unfolding HasOne
      by small zero w = inr (is_last small w)
      by small (suc late) w = inl (so_all (λ is small. (late, w)))

    pub one_less : ComesWhole t edges new m calls ⊎ IsLastOfOne port rise width calls
    unfolding HasOne
    one_less = elim (cases_Bool (is_pulse width)) [
      | inr wide ↦ inl (so_all (λ is small. (let w = come.frames port small is in (w.0, subst (Whole w.0) (no_pulse port port rise width calls wide) w.1))))
      | inl narrow ↦ elim (cases_Bool (come.whole port)) [
        | inr not ↦ inl (so_all (λ is small. absurd cc))
        | inl is ↦ elim (cases_lt port 5) [
          | inr far ↦ inl (so_all (λ is small. absurd (omega (arith, far, small))))
          | inl small ↦ (let w = come.frames port small is in by narrow small w.0 (subst (Whole w.0) (on narrow) w.1))
        ]
      ]
    ]

  -- so by a tick 4 ms behind the edge the frames were told, whatever was told behind it
  pub told_before : (start : ℕ) (r : Redundancy) (x base : List Call) → AreInOrder start r (x ++ base) → edges m + 3000 ≤ last_tick start base → AreToldInTime start x base → ComesWhole t edges new m (x ++ base) → ComesWhole t edges new m base
  told_before start r [] base order late told come = come
  told_before start r (Tick now ∷ x) base order late told come = told_before start r x base order.3 late told (record { whole = come.whole; many = come.many; frames = come.frames })
  told_before start r (Hear port rise width ∷ x) base order late told come = elim (one_less port rise width (x ++ base) come) [
    | inl less ↦ told_before start r x base order.2 late told.1 less
    | inr last ↦ absurd (omega (arith, last.most, told.0, last_on start r x base order.2, late))
  ]

-- ---- a loop that serves each second announces

-- of some calls behind others, the older ones serve the m-th second
pub record IsStep (IsTrue : ℕ → List Pulse → Type 0) (t : TimelineValue) (edges : ℕ → ℕ) (new : Keeping) (start m : ℕ) (rest done : List Call) : Type 0 where
  pub x : List Call
  pub z : List Call
  pub are : rest ≡ x ++ z
  pub served : IsServed IsTrue t edges new start m z done

-- calls behind others, by a loop that serves the m-th second
pub record AreServing (IsTrue : ℕ → List Pulse → Type 0) (t : TimelineValue) (edges : ℕ → ℕ) (new : Keeping) (start : ℕ) (Loop : List Call → List Call → Type 0) (m : ℕ) (rest done : List Call) : Type 0 where
  pub told : ℕ
  pub risen : HaveRisen told done
  pub ticked : last_tick start done ≤ told
  pub past : told + 11000 < edges m
  pub order : AreInOrder start new.clock.redundancy (rest ++ done)
  pub truth : AreTrueOver IsTrue (f_of new.clock.redundancy) rest done
  pub loop : Loop rest done

module _ (IsTrue : ℕ → List Pulse → Type 0) (t : TimelineValue) (d : ℕ) (edges : ℕ → ℕ) (quartz : IsQuartz d edges) (new : Keeping) (start : ℕ) (Loop : List Call → List Call → Type 0) (splits : Splits Loop)
    (serve : (m : ℕ) → 1 ≤ m → (rest done : List Call) → AreServing IsTrue t edges new start Loop m rest done → ComesWhole t edges new m (rest ++ done) → edges m + 3000 ≤ last_tick start (rest ++ done) → IsStep IsTrue t edges new start m rest done) where
  record IsRowOf (m n : ℕ) (all before : List Call) : Type 0 where
    rest : List Call
    done : List Call
    are : all ≡ rest ++ done
    served : AreServed IsTrue t edges new start m n done before
    on : AreServing IsTrue t edges new start Loop (m + n) rest done

  goes_on : (m n : ℕ) (all before : List Call) → (row : IsRowOf m n all before) → IsStep IsTrue t edges new start (m + n) row.rest row.done → IsRowOf m (suc n) all before
  goes_on m n all before row step =
      let s = step.served in
      let joined : row.rest ++ row.done ≡ step.x ++ (step.z ++ row.done) = ap (λ (c : List Call). c ++ row.done) step.are ∙ append_assoc step.x step.z row.done in
      let ordered = subst (AreInOrder start new.clock.redundancy) joined row.on.order in
      let here = subst (λ (c : List Call). AreInOrder start new.clock.redundancy (c ++ row.done)) s.are (order_before start new.clock.redundancy step.x (step.z ++ row.done) ordered) in
      let next : m + suc n ≡ m + n + 1 = omega arith in
      let at : edges (m + suc n) ≡ edges (m + n + 1) = ap edges next in
      record {
        rest = step.x;
        done = step.z ++ row.done;
        are = row.are ∙ joined;
        served = (step.z, row.done, refl, s, row.served);
        on = record {
          told = s.now + 4000;
          risen = subst (λ (c : List Call). HaveRisen (s.now + 4000) (c ++ row.done)) (sym s.are) here.2;
          ticked = subst (λ (c : List Call). last_tick start (c ++ row.done) ≤ s.now + 4000) (sym s.are) (omega arith);
          past = omega (arith, s.soon, at, quartz.steady.least (m + n), quartz.few);
          order = ordered;
          truth = (truth_splits IsTrue (f_of new.clock.redundancy) step.x step.z row.done (subst (λ (c : List Call). AreTrueOver IsTrue (f_of new.clock.redundancy) c row.done) step.are row.on.truth)).0;
          loop = (splits step.x step.z row.done (subst (λ (c : List Call). Loop c row.done) step.are row.on.loop)).0;
        };
      }

  row_of : (m : ℕ) → 1 ≤ m → (k : ℕ) (calls before : List Call) → AreServing IsTrue t edges new start Loop m calls before → ((n : ℕ) → n < k + 2 → ComesWhole t edges new (m + n) (calls ++ before)) → edges (m + 1 + k) + 3000 ≤ last_tick start (calls ++ before) → (n : ℕ) → n ≤ k + 2 → IsRowOf m n (calls ++ before) before
  row_of m some k calls before on whole last zero few =
      let same : m ≡ m + 0 = omega arith in
      record { rest = calls; done = before; are = refl; served = refl; on = subst (λ (i : ℕ). AreServing IsTrue t edges new start Loop i calls before) same on }
  row_of m some k calls before on whole last (suc n) few =
      let row = row_of m some k calls before on whole last n (omega (arith, few)) in
      let far : m + n + (k + 1 - n) ≡ m + 1 + k = omega (arith, few) in
      let rise = subst (λ (i : ℕ). edges (m + n) + (k + 1 - n) * 999900 ≤ edges i) far (rises d edges quartz (m + n) (k + 1 - n)) in
      goes_on m n (calls ++ before) before row
      (serve (m + n) (omega (arith, some)) row.rest row.done row.on (subst (ComesWhole t edges new (m + n)) row.are (whole n (omega (arith, few)))) (subst (λ (c : List Call). edges (m + n) + 3000 ≤ last_tick start c) row.are (omega (arith, rise, last))))

  -- so the device announces the last
  pub loop_announces : (begun : AreLinesAt new new (λ i. []) start start) (is : IsDevice t new.clock.drift_us edges new.clock.reader_rules new.table) (follows : FollowsTruth t new.clock.prefers_frames new.table) (truly : TellAlwaysTruly IsTrue new.clock new.rules t edges 0 0) → new.state.reader ≡ state_of new.clock.reader_rules new.table [] → (m : ℕ) → 1 ≤ m → 1 ≤ new.clock.reader_rules.lock_after → (calls before : List Call)
      → AreServing IsTrue t edges new start Loop m calls before → ((n : ℕ) → n < new.clock.reader_rules.lock_after + 2 → ComesWhole t edges new (m + n) (calls ++ before)) → edges (m + 1 + new.clock.reader_rules.lock_after) + 3000 ≤ last_tick start (calls ++ before) → (u : UtcSecond) → IsSecond t (m + 1 + new.clock.reader_rules.lock_after) u
      → Announces edges new (m + 1 + new.clock.reader_rules.lock_after) u (calls ++ before)
  loop_announces begun is follows truly fresh m some enough calls before on whole last u second =
      let k : ℕ = new.clock.reader_rules.lock_after in
      let two : k + 2 ≡ suc (suc k) = omega arith in
      let row = subst (λ (n : ℕ). IsRowOf m n (calls ++ before) before) two (row_of m some k calls before on whole last (k + 2) (omega arith)) in
      let a = serves IsTrue t edges new start begun is follows truly fresh m some enough before on.told on.risen on.past row.done row.served (order_before start new.clock.redundancy row.rest row.done row.on.order) u second in
      record {
        now = a.now;
        later = row.rest ++ a.later;
        earlier = a.earlier;
        are = row.are ∙ ap (λ (c : List Call). row.rest ++ c) a.are ∙ sym (append_assoc row.rest a.later (Tick a.now ∷ a.earlier));
        soon = a.soon;
        beat = a.beat;
        answer = a.answer;
        says = a.says;
      }

-- ---- a tick at least so often

module _ (IsTrue : ℕ → List Pulse → Type 0) (t : TimelineValue) (edges : ℕ → ℕ) (new : Keeping) (quartz : IsQuartz new.clock.drift_us edges) (start : ℕ) (most : ℕ) (few : most ≤ 95000) where
  abbrev pub Polls : List Call → List Call → Type 0
  Polls calls before = AreToldInTime start calls before × TicksEach most start calls before

  pub polls_split : Splits Polls
  polls_split x z before polls =
      let told = told_splits start x z before polls.0 in
      let each = each_splits most start x z before polls.1 in
      ((told.0, each.0), (told.1, each.1))

  pub polls_serve : (m : ℕ) → 1 ≤ m → (rest done : List Call) → AreServing IsTrue t edges new start Polls m rest done → ComesWhole t edges new m (rest ++ done) → edges m + 3000 ≤ last_tick start (rest ++ done) → IsStep IsTrue t edges new start m rest done
  polls_serve m some rest done on come last =
      let first = first_tick start (edges m + 3000) rest done (omega (arith, on.ticked, on.past)) last in
      let z : List Call = Tick first.now ∷ first.y in
      let joined : rest ++ done ≡ first.x ++ (z ++ done) = ap (λ (c : List Call). c ++ done) first.are ∙ append_assoc first.x z done in
      let polls = polls_split first.x z done (subst (λ (c : List Call). Polls c done) first.are on.loop) in
      let truth = truth_splits IsTrue (f_of new.clock.redundancy) first.x z done (subst (λ (c : List Call). AreTrueOver IsTrue (f_of new.clock.redundancy) c done) first.are on.truth) in
      let ordered = subst (AreInOrder start new.clock.redundancy) joined on.order in
      let told = told_before t new.clock.drift_us edges quartz new m start new.clock.redundancy first.x (z ++ done) ordered first.come polls.0.0 (subst (ComesWhole t edges new m) joined come) in
      record {
        x = first.x;
        z = z;
        are = first.are;
        served = record {
          now = first.now;
          others = first.y;
          are = refl;
          early = omega (arith, first.early);
          soon = omega (arith, first.early, polls.1.1.0, few);
          comes = inl (omega (arith, first.come, reach_few new.clock, quartz.few), record { whole = told.whole; many = told.many; frames = told.frames });
          truth = truth.1;
        };
      }

-- so, by what `a_device_announces` says of true lines
pub polling_announces : (t : TimelineValue) (edges : ℕ → ℕ) (made : Made) (start m most : ℕ) (calls before : List Call) (u : UtcSecond) → ComeInARow (IsTrueLately made.clock.within.us) t edges made start m calls before → FollowsTruth t made.clock.prefers_frames made.table → most ≤ 95000 → TicksEach most start calls before → AreToldInTime start calls before
    → IsSecond t (m + 1 + made.clock.reader_rules.lock_after) u → Announces edges (device_of made) (m + 1 + made.clock.reader_rules.lock_after) u (calls ++ before)
polling_announces t edges made start m most calls before u come follows few each told second =
    let quartz = come.is.steady in
    let new = device_of made in
    loop_announces (IsTrueLately made.clock.within.us made.rules t edges) t made.clock.drift_us edges quartz new start
    (Polls (IsTrueLately made.clock.within.us made.rules t edges) t edges new quartz start most few)
    (polls_split (IsTrueLately made.clock.within.us made.rules t edges) t edges new quartz start most few)
    (polls_serve (IsTrueLately made.clock.within.us made.rules t edges) t edges new quartz start most few)
    (begins made.rules made.clock made.table made.lines start made.fresh) come.is follows
    (λ now half end pulses claim is_true frame soon. true_by_any made.clock made.rules t made.clock.drift_us edges half now end pulses claim quartz is_true frame soon)
    refl m come.some come.locks calls before
    (record { told = come.told; risen = come.risen; ticked = come.ticked; past = come.past; order = come.order; truth = come.truth; loop = (told, each) })
    come.whole come.last u second
