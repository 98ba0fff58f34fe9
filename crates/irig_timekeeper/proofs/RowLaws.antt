-- Between two seconds that are told in a row no event is without a stamp.
use Rattle.std.specs.Prelude.{◌||◌, nat_le, nat_lt}
use Rattle.std.proofs.Common.{◌≡◌, ◌∙◌, ℕ, ◌+◌, ◌%◌, ◌^◌, ◌<◌, ◌≤◌, Bool, true, false, List, [], ◌∷◌, ◌++◌, Option, Some, None, refl, sym, ap, subst, arith, inl, inr}
use Rattle.std.proofs.lemmas.Bool.{cases_lt}
use Rattle.irig_sync.specs.Lines.{Pulse}
use Rattle.irig_sync.specs.Sync.{clock_gap}
use Rattle.irig_time.specs.declared.rules.Rules.{Rules}
use Rattle.irig_time.specs.declared.second.UtcSecond.{UtcSecond}
use Rattle.irig_time.specs.Tables.{TableValue}
use Rattle.irig_time.specs.Timelines.{TimelineValue}
use Rattle.irig_vote.specs.Vote.{f_of}
use Rattle.irig_lines.specs.declared.lines.Lines.{Lines}
use Rattle.irig_timekeeper.specs.declared.clock.Beat.{Beat}
use Rattle.irig_lines.specs.declared.lines.Vote.{Vote}
use Rattle.irig_lines.specs.declared.setup.ClockRules.{ClockRules}
use Rattle.irig_timekeeper.specs.declared.stamp.Announced.{Announced}
use Rattle.irig_timekeeper.specs.declared.stamp.Stamp.{Stamp}
use Rattle.irig_timekeeper.specs.Clock.{announced_at}
use Rattle.irig_lines.specs.Edges.{IsNear}
use Rattle.irig_timekeeper.specs.Keeping.{Keeping, new_keeping, vote_at, answer_at, stamp_at}
use Rattle.irig_timekeeper.specs.Life.{Call, after_calls, AreInOrder, AreTrueAtTicks, AreTrueLately, AreTrueOver}
use Rattle.irig_timekeeper.specs.Life.Call.{Hear, Tick}
use Rattle.irig_timekeeper.specs.Rows.{AreToldLast, TellNothing}
use Rattle.irig_timekeeper.specs.Stamps.{first_stamp, next_us, serves, stamp_by, stamp_of}
use Rattle.irig_lines.specs.Steps.{AreNewLines}
use Rattle.irig_timekeeper.specs.Truth.{IsDevice, IsToldTruly}
use Rattle.irig_timekeeper.proofs.LearnLaws.{IsPlain}
use Rattle.irig_timekeeper.proofs.LifeLaws.{StepsIn, TellAlwaysTruly, device_true, order_before, steps_before, truth_before, truth_over}
use Rattle.irig_lines.proofs.ReachLaws.{ComesBy, IsPut, close}
use Rattle.irig_timekeeper.proofs.HealLaws.{newly}
use Rattle.irig_timekeeper.proofs.TimeLaws.{same_edge}
use Rattle.irig_timekeeper.proofs.StampLaws.{IsFresh, StaysFresh, begun, fresh_on, fresh_tick, leaves_told, next_edge, puts_truly, small_bound, stays_behind, stood}

-- ---- what is kept of the two

-- calls that tell nothing keep both
keeps : (new : Keeping) (base later : List Call) → TellNothing new later base
    → ((after_calls new (later ++ base)).state.last ≡ (after_calls new base).state.last) × ((after_calls new (later ++ base)).state.before ≡ (after_calls new base).state.before)
keeps new base [] silent = (refl, refl)
keeps new base (Hear port rise width ∷ later) silent =
    let stays = stays_behind (after_calls new (later ++ base)) port (rise % 2 ^ 32) width in
    let so = keeps new base later silent in
    (stays.0 ∙ so.0, stays.1 ∙ so.1)
keeps new base (Tick now ∷ later) silent =
    let same = (leaves_told (after_calls new (later ++ base)) (now % 2 ^ 32)).same silent.0 in
    let so = keeps new base later silent.1 in
    (same.0 ∙ so.0, same.1 ∙ so.1)

-- the one is the last, and the other the one before
abbrev AreKept : Keeping → Beat → Beat → UtcSecond → UtcSecond → Type 0
AreKept k beat then u v = (k.state.last ≡ announced_at then.edge_us then.bound_us (Some v)) × (k.state.before ≡ announced_at beat.edge_us beat.bound_us (Some u))

are_kept : (new : Keeping) (calls : List Call) (beat then : Beat) (edge next : ℕ) (u v : UtcSecond) → AreToldLast new calls beat then edge next → beat.report.announce ≡ Some u → then.report.announce ≡ Some v → AreKept (after_calls new calls) beat then u v
are_kept new calls beat then edge next u v row says says_then =
    let base : List Call = Tick row.before ∷ row.earlier in
    let mid : List Call = row.between ++ base in
    let one = (leaves_told (after_calls new row.earlier) (row.before % 2 ^ 32)).told beat row.told in
    let two = (leaves_told (after_calls new mid) (row.now % 2 ^ 32)).told then row.told_then in
    let to = keeps new base row.between row.silent in
    let since = keeps new (Tick row.now ∷ mid) row.later row.silent_since in
    let last = since.0 ∙ (two.0 ∙ ap (announced_at then.edge_us then.bound_us) says_then) in
    let before = since.1 ∙ (two.3 v says_then ∙ (to.0 ∙ (one.0 ∙ ap (announced_at beat.edge_us beat.bound_us) says))) in
    subst (λ (x : List Call). AreKept (after_calls new x) beat then u v) (sym row.are) (last, before)

-- ---- none is lost

-- a second serves
abbrev HasStamp : Option Stamp → Type 0
HasStamp o = (stamp : Stamp) × (o ≡ Some stamp)

by_second : (a : Announced) (next time : ℕ) → serves a.bound_us next (clock_gap a.edge_us time) ≡ true → HasStamp (stamp_by (Some a) next time)
by_second a next time serves = (record { second = a.second; offset_us = clock_gap a.edge_us time; bound_us = a.bound_us }, rw serves refl)

either : (x y : Option Stamp) → HasStamp y → HasStamp (first_stamp x y)
either (Some x) y has = (x, refl)
either None y has = has

the_first : (x y : Option Stamp) → HasStamp x → HasStamp (first_stamp x y)
the_first (Some x) y has = (x, refl)
the_first None y has = let none : None ≡ Some has.0 = has.1 in absurd cc

lies_near : (bound next offset : ℕ) → offset ≤ 1000000 + bound → serves bound next offset ≡ true
lies_near bound next offset few = let low : nat_le offset (1000000 + bound) ≡ true = grind (arith, few) in rw low refl

lies_before : (bound next offset : ℕ) → offset < next → next < 1500000 → serves bound next offset ≡ true
lies_before bound next offset before few =
    let less : nat_lt offset next ≡ true = grind (arith, before) in
    let short : nat_lt next 1500000 ≡ true = grind (arith, few) in
    rw (less, short) (either_way (nat_le offset (1000000 + bound)))
  where
    either_way : (b : Bool) → (b || true) ≡ true
    either_way true = refl
    either_way false = refl

module _ (new : Keeping) (calls : List Call) (beat then : Beat) (edge next : ℕ) (u v : UtcSecond) (row : AreToldLast new calls beat then edge next) (says : beat.report.announce ≡ Some u) (says_then : then.report.announce ≡ Some v) where
  -- an event from the one edge on, up to the other, and a second and its error behind that, has a stamp,
  -- if less than a second and a half lie between them
  pub none_lost : (time : ℕ) → next < edge + 1500000 → edge ≤ time → time ≤ next + 1000000 + then.bound_us → (stamp : Stamp) × (stamp_at (after_calls new calls) (time % 2 ^ 32) ≡ Some stamp)
  none_lost time near from upto =
      let kept = are_kept new calls beat then edge next u v row says says_then in
      let last : Announced = record { second = v; edge_us = then.edge_us; bound_us = then.bound_us } in
      let before : Announced = record { second = u; edge_us = beat.edge_us; bound_us = beat.bound_us } in
      let x : ℕ = time % 2 ^ 32 in
      subst (λ (o : Option Announced). HasStamp (stamp_of o (after_calls new calls).state.before x)) (sym kept.0)
      (subst (λ (o : Option Announced). HasStamp (stamp_of (Some last) o x)) (sym kept.1)
      (elim (cases_lt time next) [
        | inr behind ↦
            the_first (stamp_by (Some last) 0 x) (stamp_by (Some before) (next_us (Some last) (Some before)) x)
            (by_second last 0 x (lies_near then.bound_us 0 (clock_gap then.edge_us x) (gap_behind then.edge_us next then.bound_us row.at_then.clock behind upto)))
        | inl ahead ↦
            let short = gap_before beat.edge_us then.edge_us edge next time row.at.clock row.at_then.clock near from ahead in
            either (stamp_by (Some last) 0 x) (stamp_by (Some before) (next_us (Some last) (Some before)) x)
            (by_second before (next_us (Some last) (Some before)) x (lies_before beat.bound_us (clock_gap beat.edge_us then.edge_us) (clock_gap beat.edge_us x) short.0 short.1))
      ]))
    where
      gap_behind : (y next bound : ℕ) → y ≡ next % 2 ^ 32 → next ≤ time → time ≤ next + 1000000 + bound → clock_gap y (time % 2 ^ 32) ≤ 1000000 + bound
      gap_behind y next bound at behind upto = omega (arith, at, behind, upto)

      gap_before : (y z edge next time : ℕ) → y ≡ edge % 2 ^ 32 → z ≡ next % 2 ^ 32 → next < edge + 1500000 → edge ≤ time → time < next → (clock_gap y (time % 2 ^ 32) < clock_gap y z) × (clock_gap y z < 1500000)
      gap_before y z edge next time at there near from ahead = (omega (arith, at, there, near, from, ahead), omega (arith, at, there, near, from, ahead))

-- ---- in a true life a second and a half lies only between seconds of which one was missed

module _ (rules : Rules) (clock : ClockRules) (table : TableValue) (lines : Lines) (start : ℕ) (fresh : AreNewLines lines) (IsTrue : ℕ → List Pulse → Type 0) (t : TimelineValue) (edges : ℕ → ℕ) (early late : ℕ)
    (is : IsDevice t clock.drift_us edges clock.reader_rules table) (room : early + late ≤ 3002) (truly : TellAlwaysTruly IsTrue clock rules t edges early late) where
  abbrev new : Keeping
  new = new_keeping rules clock table lines

  abbrev Put : ℕ → Type 0
  Put = IsPut edges early late

  -- calls that tell nothing leave the edge where it was told, or set it right by true votes
  stays_on : (A e : ℕ) (base : List Call) → (after_calls new base).state.edge_us ≡ Some e → IsFresh new start (begun rules clock table lines start fresh) Put A base e → (later : List Call) → AreInOrder start clock.redundancy (later ++ base) → AreTrueOver IsTrue (f_of clock.redundancy) later base
      → TellNothing new later base → StaysFresh new start (begun rules clock table lines start fresh) Put A (later ++ base) (after_calls new (later ++ base)).state.edge_us
  stays_on A e base edge is_fresh [] order truth silent = record { e = e; edge = edge; fresh = is_fresh }
  stays_on A e base edge is_fresh (Hear port rise width ∷ later) order truth silent =
      let so = stays_on A e base edge is_fresh later order.2 truth silent in
      let stays = stays_behind (after_calls new (later ++ base)) port (rise % 2 ^ 32) width in
      record {
        e = so.e;
        edge = stays.2 ∙ so.edge;
        fresh = record { x = so.fresh.x; at = so.fresh.at; is = fresh_on new start (begun rules clock table lines start fresh) Put A (Hear port rise width) (later ++ base) so.fresh.x so.fresh.is };
      }
  stays_on A e base edge is_fresh (Tick now ∷ later) order truth silent =
      let so = stays_on A e base edge is_fresh later order.3 truth.1 silent.1 in
      fresh_tick new start (begun rules clock table lines start fresh) Put A (later ++ base) now order (puts_truly rules clock table lines start fresh t edges early late is IsTrue room truly (later ++ base) now order truth.0) so.e so.fresh so.edge silent.0

  pub told_in_a_row : (calls : List Call) (beat then : Beat) (edge next : ℕ) (u : UtcSecond) → (row : AreToldLast new calls beat then edge next) → AreInOrder start clock.redundancy (Tick row.now ∷ (row.between ++ (Tick row.before ∷ row.earlier)))
      → AreTrueOver IsTrue (f_of clock.redundancy) (Tick row.now ∷ row.between) (Tick row.before ∷ row.earlier) → IsToldTruly t edges (early + beat.bound_us) (late + beat.bound_us) row.before beat u
      → beat.report.announce ≡ Some u → then.missed ≡ 0 → next < edge + 1500000
  told_in_a_row calls beat then edge next u row ordered truth true_beat says none =
      let base : List Call = Tick row.before ∷ row.earlier in
      let mid : List Call = row.between ++ base in
      let kept = (leaves_told (after_calls new row.earlier) (row.before % 2 ^ 32)).told beat row.told in
      let begins : IsFresh new start (begun rules clock table lines start fresh) Put edge base beat.edge_us = record { x = edge; at = row.at; is = inl refl } in
      let so = stays_on edge beat.edge_us base kept.2 begins row.between ordered.3 truth.1 row.silent in
      let puts = puts_truly rules clock table lines start fresh t edges early late is IsTrue room truly mid row.now ordered truth.0 in
      let comes = next_edge new start (begun rules clock table lines start fresh) Put edge mid row.now ordered puts so.e so.fresh so.edge then row.told_then next row.at_then in
      let a : Announced = record { second = u; edge_us = beat.edge_us; bound_us = beat.bound_us } in
      let small = small_bound rules clock table lines start fresh t edges is row.earlier row.before beat row.told in
      let same = same_edge beat.edge_us true_beat.edge edge row.before (record { clock = true_beat.clock; come = true_beat.come; soon = true_beat.soon }) row.at in
      let near : IsNear edges (early + beat.bound_us) (late + beat.bound_us) true_beat.m edge = subst (IsNear edges (early + beat.bound_us) (late + beat.bound_us) true_beat.m) same true_beat.near in
      close clock.drift_us edges is.steady early late room edge beat.bound_us true_beat.m near small so.fresh.x next
      (stood new start (begun rules clock table lines start fresh) Put edge mid so.fresh.x so.fresh.is) (subst (λ (m : ℕ). ComesBy Put m so.fresh.x next) none comes)

  -- in a life that is true at each tick
  pub in_a_row : (calls : List Call) (beat then : Beat) (edge next : ℕ) (u : UtcSecond) → AreInOrder start clock.redundancy calls → AreTrueAtTicks IsTrue (f_of clock.redundancy) calls → StepsIn edges early late new start calls → AreToldLast new calls beat then edge next
      → beat.report.announce ≡ Some u → then.missed ≡ 0 → next < edge + 1500000
  in_a_row calls beat then edge next u order truth steps row says none =
      let base : List Call = Tick row.before ∷ row.earlier in
      let mid : List Call = Tick row.now ∷ (row.between ++ base) in
      let ordered = order_before start clock.redundancy row.later mid (subst (AreInOrder start clock.redundancy) row.are order) in
      let true_so_far = truth_before IsTrue (f_of clock.redundancy) row.later mid (subst (AreTrueAtTicks IsTrue (f_of clock.redundancy)) row.are truth) in
      let at_base = order_before start clock.redundancy row.between base ordered.3 in
      let true_base = truth_before IsTrue (f_of clock.redundancy) row.between base true_so_far.1 in
      let steps_base = steps_before edges early late new start row.between base (steps_before edges early late new start row.later mid (subst (StepsIn edges early late new start) row.are steps)).1 in
      let told = (device_true rules clock table lines start fresh IsTrue t edges early late is room truly row.earlier row.before beat u at_base true_base steps_base row.told says).told in
      told_in_a_row calls beat then edge next u row ordered (true_so_far.0, truth_over IsTrue (f_of clock.redundancy) row.between base true_so_far.1) told says none

  -- in one that is so since a vote
  pub in_a_row_since : (calls : List Call) (beat then : Beat) (edge next : ℕ) (u : UtcSecond) (row : AreToldLast new calls beat then edge next) (earlier later : List Call) (mend : ℕ) (v : Vote) (b : Beat) → AreTrueLately IsTrue (f_of clock.redundancy) mend earlier
      → vote_at (after_calls new earlier) (mend % 2 ^ 32) ≡ Some v → answer_at (after_calls new earlier) (mend % 2 ^ 32) ≡ Some b → Tick row.before ∷ row.earlier ≡ later ++ (Tick mend ∷ earlier) → AreTrueOver IsTrue (f_of clock.redundancy) later (Tick mend ∷ earlier)
      → AreInOrder start clock.redundancy (Tick row.now ∷ (row.between ++ (Tick row.before ∷ row.earlier))) → AreTrueOver IsTrue (f_of clock.redundancy) (Tick row.now ∷ row.between) (Tick row.before ∷ row.earlier) → IsPlain new → beat.report.announce ≡ Some u → then.missed ≡ 0 → next < edge + 1500000
  in_a_row_since calls beat then edge next u row earlier later mend v b lately voted answer are since ordered truth plain says none =
      let base : List Call = Tick row.before ∷ row.earlier in
      let at_base = order_before start clock.redundancy row.between base ordered.3 in
      let told = (newly IsTrue t edges early late new start (begun rules clock table lines start fresh) tt is room truly plain earlier mend v b lately voted answer later row.earlier row.before are since at_base beat u row.told says).told in
      told_in_a_row calls beat then edge next u row ordered truth told says none
