-- What a stamp in a life names, and how far off it may be, by what the ticks of that life gave.
use Rattle.std.proofs.Common.{◌≡◌, ◌∙◌, ◌∷◌, ◌++◌, [], ◌+◌, ◌*◌, ◌%◌, ◌^◌, ◌≤◌, ◌==◌, if◌then◌else◌, ℕ, List, Option, Some, None, refl, sym, ap, subst, arith, inl, inr}
use Rattle.irig_sync.specs.Lines.{Pulse}
use Rattle.irig_time.specs.declared.rules.Rules.{Rules}
use Rattle.irig_time.specs.declared.second.UtcSecond.{UtcSecond}
use Rattle.irig_time.specs.Timelines.{TimelineValue}
use Rattle.irig_reader.specs.declared.report.Report.{Report}
use Rattle.irig_timekeeper.specs.declared.clock.Beat.{Beat}
use Rattle.irig_timekeeper.specs.declared.clock.ClockState.{ClockState}
use Rattle.irig_timekeeper.specs.declared.stamp.Stamp.{Stamp}
use Rattle.irig_timekeeper.specs.Clock.{lasted}
use Rattle.irig_timekeeper.specs.Keeping.{Keeping, answer_at, stamp_at}
use Rattle.irig_timekeeper.specs.Life.{Call, AreInOrder, after_calls, device_of, life_of}
use Rattle.irig_timekeeper.specs.Life.Call.{Tick}
use Rattle.irig_lines.specs.Edges.{IsQuartz}
use Rattle.irig_lines.specs.Lines.{IsTrueLately, IsTrueOrFaulty}
use Rattle.irig_timekeeper.specs.Lived.{MadeOf, made_with}
use Rattle.irig_timekeeper.specs.Since.{since_answer, unless_voted}
use Rattle.irig_timekeeper.specs.Since as device
use Rattle.irig_timekeeper.specs.Stamps.{stamp_of}
use Rattle.irig_timekeeper.specs.Truth.{IsDevice, IsInstant, IsStampedTruly}
use Rattle.irig_timekeeper.proofs.HealedStamps.{stamped_since}
use Rattle.irig_timekeeper.proofs.LifeLaws.{order_before}
use Rattle.irig_timekeeper.proofs.SinceLaws.{has_its_bound, lasts_since}
use Rattle.irig_lines.specs.Exactness.{fault_early_us, fault_late_us}
use Rattle.irig_lines.specs.Widths.{vote_us}
use Rattle.irig_timekeeper.proofs.FaultLines.{late_below}
use Rattle.irig_timekeeper.proofs.StampLaws.{near_instant, stamped}
use Rattle.c_numbers.specs.Reports.{report_in}
use Rattle.irig_lines.specs.Clocks.{IsTrueByItsClock, IsTrueByItsQuality}
use Rattle.c_keeper.specs.declared.second.IrigSecond.{IrigSecond}
use Rattle.c_keeper.specs.declared.timekeeper.IrigTimekeeper.{IrigTimekeeper}
use Rattle.c_keeper.specs.Lives.{Moment, AreTogether, HasLived, HaveTold, HasHealedBefore, HasItsBound, StampsTruly, calls_of, since_vote}
use Rattle.c_keeper.specs.Lives.Moment.{Pulsed, Ticked, Waited}
use Rattle.c_keeper.specs.Seconds.{IsSecondOf}
use Rattle.c_keeper.specs.Timekeepers.{stamp_for, IsTimekeeperOf}
use Rattle.c_keeper.proofs.LivesLaws.{AreLinesSo, as_device, announced_beat, clock_lines, faulty_lines, quality_lines, told_before, whole_lines}
use Rattle.c_keeper.proofs.ValueLaws.{beat_of}

-- the stamp of an event is that of the value
pub stamped_as : (t : IrigTimekeeper) (k : Keeping) (time : ℕ) → IsTimekeeperOf t k → stamp_for t time ≡ stamp_at k time
stamped_as t k time h = ap (λ (s : ClockState). stamp_of s.last s.before time) h.state

-- ---- a stamp is true

-- off by so much more, as frames of such lines end before their edges and behind them
module _ (IsTrue : Rules → TimelineValue → (ℕ → ℕ) → ℕ → List Pulse → Type 0) (early late more : ℕ) (low : early ≤ more) (high : late ≤ more) (q : IrigTimekeeper) (t : TimelineValue) (edges : ℕ → ℕ) (made : MadeOf) (so : AreLinesSo made IsTrue early late) (start time now : ℕ)
    (past : List Moment) (stamp : Stamp) (h : HasLived q made past) (e : stamp_at (life_of (made_with made h.lines h.fresh) (calls_of past)) (time % 2 ^ 32) ≡ Some stamp) where
  stamped_healed : (mended : HasHealedBefore IsTrue t edges made start past time) → AreInOrder start made.clock.redundancy (Tick now ∷ calls_of past) → time ≤ now → now ≤ time + 1800000000 → IsStampedTruly t edges more time stamp
  stamped_healed mended order behind young =
      let vote = mended.healed in
      let d = as_device IsTrue t edges made start h.lines h.fresh past h.told vote in
      let told = (told_before (device_of (made_with made h.lines h.fresh)) vote.later (Ticked vote.mend vote.second ∷ vote.earlier) (subst (HaveTold (device_of (made_with made h.lines h.fresh))) vote.are h.told)).0 in
      let same = (beat_of vote.second _ told.is vote.told).1.told in
      let ordered = order_before start made.clock.redundancy d.later (Tick d.mend ∷ d.earlier) (subst (AreInOrder start made.clock.redundancy) d.are d.order) in
      stamped_since made.rules made.clock made.table h.lines start h.fresh (IsTrue made.rules t edges) t edges early late more d.is (so.room d.is.steady.few) low high
      (so.truly made.rules t edges d.is.steady) d.plain
      d.earlier d.mend d.vote d.beat d.truth ordered d.voted d.answer mended.edge time now
      (record { clock = sym same.edge_us ∙ mended.at.clock; come = mended.at.come; soon = mended.at.soon })
      (elim mended.when [ inl after ↦ inl after | inr silent ↦ inr (ap (λ (r : Report). r.announce) (sym same.report) ∙ silent) ])
      behind young d.later (calls_of past) d.are order d.since stamp e

  stamped_so : StampsTruly IsTrue t edges made start time now past → IsStampedTruly t edges more time stamp
  stamped_so lives = elim lives.sound [
    | inl well ↦ stamped made.rules made.clock made.table h.lines start h.fresh t edges early late more well.is low high (IsTrue made.rules t edges) (so.room well.is.steady.few)
        (so.truly made.rules t edges well.is.steady) (calls_of past) time now lives.order well.truth
        (so.goes_on t edges h.lines h.fresh start (calls_of past) (record { is = well.is; learns = well.learns; order = well.order; truth = well.truth })) lives.behind lives.young stamp e
    | inr mended ↦ stamped_healed mended lives.order lives.behind lives.young
  ]

module _ (q : IrigTimekeeper) (t : TimelineValue) (edges : ℕ → ℕ) (made : MadeOf) (start time now : ℕ) (past : List Moment) (stamp : Stamp) (h : HasLived q made past) (e : stamp_at (life_of (made_with made h.lines h.fresh) (calls_of past)) (time % 2 ^ 32) ≡ Some stamp) where
  pub stamped_truly : StampsTruly (IsTrueLately made.clock.within.us) t edges made start time now past → IsStampedTruly t edges 0 time stamp
  stamped_truly = stamped_so (IsTrueLately made.clock.within.us) 0 0 0 (omega arith) (omega arith) q t edges made (whole_lines made) start time now past stamp h e

  pub stamped_faulty : made.clock.wander_ppb ≡ 0 → StampsTruly (IsTrueOrFaulty made.clock.within.us) t edges made start time now past → IsStampedTruly t edges (fault_early_us made.clock.within.us made.clock.drift_us) time stamp
  stamped_faulty plain = stamped_so (IsTrueOrFaulty made.clock.within.us) (fault_early_us made.clock.within.us made.clock.drift_us) (fault_late_us made.clock.within.us made.clock.drift_us) (fault_early_us made.clock.within.us made.clock.drift_us) (omega arith) (late_below made.clock.within.us made.clock.drift_us) q t edges made (faulty_lines made plain) start time now past stamp h e

  pub stamped_off : (off : ℕ) → made.clock.wander_ppb ≡ 0 → off ≤ 1000 → StampsTruly (IsTrueByItsClock off made.clock.within.us made.clock.drift_us) t edges made start time now past → IsStampedTruly t edges off time stamp
  stamped_off off plain few = stamped_so (IsTrueByItsClock off made.clock.within.us made.clock.drift_us) off off off (omega arith) (omega arith) q t edges made (clock_lines off made plain few) start time now past stamp h e

  pub stamped_quality : StampsTruly (IsTrueByItsQuality made.clock) t edges made start time now past → IsStampedTruly t edges 0 time stamp
  stamped_quality = stamped_so (IsTrueByItsQuality made.clock) 0 0 0 (omega arith) (omega arith) q t edges made (quality_lines made) start time now past stamp h e

-- the device of such a life
pub sound_device : (t : TimelineValue) (edges : ℕ → ℕ) (made : MadeOf) (start time now : ℕ) (past : List Moment) → StampsTruly (IsTrueLately made.clock.within.us) t edges made start time now past → IsDevice t made.clock.drift_us edges made.clock.reader_rules made.table
sound_device t edges made start time now past lives = elim lives.sound [ inl well ↦ well.is | inr mended ↦ mended.healed.is ]

-- two stamps of one instant
pub stamped_together : (t : TimelineValue) (d e n tau time there : ℕ) (edges others : ℕ → ℕ) (stamp other : Stamp) → IsQuartz d edges → IsQuartz e others → IsInstant d edges n tau time → IsInstant e others n tau there
    → IsStampedTruly t edges 0 time stamp → IsStampedTruly t others 0 there other → AreTogether t (stamp.bound_us + other.bound_us + 2 * d + 2 * e) stamp other
stamped_together t d e n tau time there edges others stamp other quartz quartz' at at' one two =
    let p = near_instant t d edges quartz n tau time at stamp one in
    let q = near_instant t e others quartz' n tau there at' other two in
    record { m = one.m; n = two.m; one = one.truth; two = two.truth; least = omega (arith, p.0, q.1); most = omega (arith, p.1, q.0) }

-- ---- the seconds since a vote

since_tick : (s : IrigSecond) (answer : Option Beat) (n : ℕ) → IsSecondOf s answer → (if s.is_told == 0 then n else unless_voted (report_in s.report).cause (n + s.missed + 1)) ≡ since_answer answer n
since_tick s None n nothing = rw (ap (λ (x : IrigSecond). x.is_told) nothing) refl
since_tick s (Some beat) n told = rw (told.is_told, ap (λ (r : Report). r.cause) told.report, told.missed) refl

pub since_is : (new : Keeping) (past : List Moment) → HaveTold new past → since_vote past ≡ device.since_vote new (calls_of past)
since_is new [] told = refl
since_is new (Pulsed line rise width place ∷ past) told = since_is new past told.1
since_is new (Waited now wait ∷ past) told = since_is new past told.1
since_is new (Ticked now second ∷ past) told =
    since_tick second (answer_at (after_calls new (calls_of past)) (now % 2 ^ 32)) (since_vote past) told.0.is
    ∙ ap (since_answer (answer_at (after_calls new (calls_of past)) (now % 2 ^ 32))) (since_is new past told.1)

-- a holdover has lasted for as many
pub lasts_as : (q : IrigTimekeeper) (made : MadeOf) (past : List Moment) (now : ℕ) (s : IrigSecond) (u : UtcSecond) → HasLived q made (Ticked now s ∷ past) → (report_in s.report).announce ≡ Some u
    → lasted (report_in s.report).lock ≡ since_vote (Ticked now s ∷ past)
lasts_as q made past now s u h says =
    let whole = made_with made h.lines h.fresh in
    let beat = announced_beat s _ u h.told.0.is says in
    ap (λ (r : Report). lasted r.lock) beat.1.told.report
    ∙ (lasts_since whole (calls_of past) now beat.0 u beat.1.is (ap (λ (r : Report). r.announce) (sym beat.1.told.report) ∙ says)
    ∙ sym (since_is (device_of whole) (Ticked now s ∷ past) h.told))

-- ---- the bound of a stamp

pub record IsTickIn (past : List Moment) (now : ℕ) (calls : List Call) : Type 0 where
  pub later : List Moment
  pub second : IrigSecond
  pub earlier : List Moment
  pub are : past ≡ later ++ (Ticked now second ∷ earlier)
  pub same : calls_of earlier ≡ calls

one_more : (m : Moment) (past : List Moment) (now : ℕ) (calls : List Call) → IsTickIn past now calls → IsTickIn (m ∷ past) now calls
one_more m past now calls is = record { later = m ∷ is.later; second = is.second; earlier = is.earlier; are = ap (λ (x : List Moment). m ∷ x) is.are; same = is.same }

pub tick_in_past : (past : List Moment) (later : List Call) (now : ℕ) (earlier : List Call) → calls_of past ≡ later ++ (Tick now ∷ earlier) → IsTickIn past now earlier
tick_in_past [] [] now earlier e = absurd cc
tick_in_past [] (call ∷ later) now earlier e = absurd cc
tick_in_past (Pulsed line rise width place ∷ past) [] now earlier e = absurd cc
tick_in_past (Waited time wait ∷ past) later now earlier e = one_more (Waited time wait) past now earlier (tick_in_past past later now earlier e)
tick_in_past (Ticked time second ∷ past) [] now earlier e =
    let same : time ≡ now = cc in
    let rest : calls_of past ≡ earlier = cc in
    record { later = []; second = second; earlier = past; are = ap (λ (x : ℕ). Ticked x second ∷ past) same; same = rest }
tick_in_past (Pulsed line rise width place ∷ past) (call ∷ later) now earlier e = one_more (Pulsed line rise width place) past now earlier (tick_in_past past later now earlier (let rest : calls_of past ≡ later ++ (Tick now ∷ earlier) = cc in rest))
tick_in_past (Ticked time second ∷ past) (call ∷ later) now earlier e = one_more (Ticked time second) past now earlier (tick_in_past past later now earlier (let rest : calls_of past ≡ later ++ (Tick now ∷ earlier) = cc in rest))

pub bounded_as : (q : IrigTimekeeper) (made : MadeOf) (past : List Moment) (time : ℕ) (stamp : Stamp) → (h : HasLived q made past)
    → stamp_at (life_of (made_with made h.lines h.fresh) (calls_of past)) (time % 2 ^ 32) ≡ Some stamp → HasItsBound made past stamp
bounded_as q made past time stamp h e =
    let whole = made_with made h.lines h.fresh in
    let new = device_of whole in
    let b = has_its_bound whole time (calls_of past) stamp e in
    let is = tick_in_past past b.later b.now b.earlier b.are in
    let told = told_before new is.later (Ticked b.now is.second ∷ is.earlier) (subst (HaveTold new) is.are h.told) in
    let answer = subst (λ (calls : List Call). answer_at (life_of whole calls) (b.now % 2 ^ 32) ≡ Some b.beat) (sym is.same) b.answer in
    let found : IsSecondOf is.second (Some b.beat) = subst (IsSecondOf is.second) answer told.0.is in
    record {
      later = is.later;
      now = b.now;
      second = is.second;
      earlier = is.earlier;
      are = is.are;
      says = ap (λ (r : Report). r.announce) found.report ∙ b.says;
      bound = subst (λ (n : ℕ). stamp.bound_us ≤ vote_us made.clock made.clock.drift_us + n * made.clock.drift_us)
          (ap (λ (calls : List Call). device.since_vote new (Tick b.now ∷ calls)) (sym is.same) ∙ sym (since_is new (Ticked b.now is.second ∷ is.earlier) told)) b.bound;
    }
