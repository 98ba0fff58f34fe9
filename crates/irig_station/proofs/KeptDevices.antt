-- A device of a station announces while the audit is kept, which says that its calls are as they should be.
use Rattle.std.proofs.Common.{◌≡◌, ◌∙◌, ℕ, zero, suc, ◌+◌, ◌-◌, ◌*◌, ◌/◌, ◌<◌, ◌≤◌, ◌==◌, true, List, [], ◌∷◌, ◌++◌, length, Option, Some, None, refl, sym, arith, inl, inr, subst}
use Rattle.std.specs.Prelude.{map, min, nat_lt, slice_get}
use Rattle.std.proofs.lemmas.Bool.{cases_Bool, eqb-true}
use Rattle.std.proofs.lemmas.Option.{get_or_from_slice_get, slice_get_within}
use Rattle.irig_frame.specs.declared.symbol.Symbol.{Symbol}
use Rattle.irig_sync.specs.Lines.{Pulse as LinePulse}
use Rattle.irig_time.specs.declared.rules.Rules.{Rules}
use Rattle.irig_time.specs.declared.second.UtcSecond.{UtcSecond}
use Rattle.irig_time.specs.Timelines.{IsSecond}
use Rattle.irig_vote.specs.Vote.{f_of}
use Rattle.irig_lines.specs.Lines.{IsTrueLately}
use Rattle.irig_lines.specs.Steps.{no_lines}
use Rattle.irig_timekeeper.specs.Life.{AreInOrder, AreTrueAtTicks, AreTrueOver, Call, Made}
use Rattle.irig_timekeeper.specs.Life.Call.{Hear, Tick}
use Rattle.irig_timekeeper.specs.Lived.{made_with}
use Rattle.irig_timekeeper.specs.Loops.{latest}
use Rattle.irig_timekeeper.specs.Truth.{FollowsTruth}
use Rattle.irig_timekeeper.proofs.WaitLoops.{latest_upto}
use Rattle.irig_lives.specs.Decided.{in_order}
use Rattle.irig_wires.specs.declared.wire.Wire.{Wire}
use Rattle.irig_wires.specs.Wires.{added, made_late, most_late_us, plugged, pulled}
use Rattle.irig_wires.specs.Oscillator.{counter_at}
use Rattle.irig_wires.proofs.OscillatorLaws.{monotone}
use Rattle.irig_witness.specs.Promise.{lines_of}
use Rattle.irig_witness.specs.Witness.{HaveEnded}
use Rattle.irig_witness.proofs.BegunLaws.{kept_same}
use Rattle.irig_witness.proofs.VouchLaws.{device, lives}
use Rattle.irig_simulated.specs.Kinds.{IsDevicePlan, Kind, MovesOn, count, edges_by_kind}
use Rattle.irig_simulated.specs.Setups.{DevicePlan}
use Rattle.irig_simulated.specs.Courses.{Course, begun_anew, keeps_so_far, may_stamp, on_line, passed, ticked}
use Rattle.irig_simulated.specs.Doings.{AreCounted, IsTickedInTime, course_behind}
use Rattle.irig_simulated.proofs.CourseLaws.{are_new}
use Rattle.irig_simulated.proofs.LoopCourses.{on_loop}
use Rattle.irig_station.specs.declared.audit.Audit.TheVariants.{Kept}
use Rattle.irig_station.specs.declared.event.Event.{Event}
use Rattle.irig_station.specs.declared.event.Event.TheVariants.{Pass, Fault, Repair, Pull, Plug, Late, Pulse, Restart}
use Rattle.irig_station.specs.declared.event.Event.TheVariants.{Stamp as StampEvent, Tick as TickEvent}
use Rattle.irig_station.specs.StationSetups.{IsStationSetup, StationSetup, kind_if, kind_of_device, redundancy_of_station}
use Rattle.irig_station.specs.SentSeconds.{frames_by, sent_second, signal_by, symbol_by}
use Rattle.irig_station.specs.StationStandings.{StationStanding, StationStep, at_course, devices_gone, has_begun_if_due, has_gone, is_at_edge, lacks_second, late_of, part_gone, part_us, station_at_start, symbols_so_far, time_gone}
use Rattle.irig_station.specs.StationPlay.{audit_of_station, play_event, standing_after, unless_device, unless_source, with_cable_if}
use Rattle.irig_station.specs.StationPromise.{AreWholeInARow, IsAnnounced}
use Rattle.irig_station.proofs.SetupLaws.{true_kind}
use Rattle.irig_station.proofs.PromiseLaws.{seen_kept}
use Rattle.irig_station.proofs.GrowthLaws.{kept_at_start}
use Rattle.irig_station.proofs.BeginLaws.{same_before}
use Rattle.irig_station.proofs.AnnounceLaws.{IsOnCourse, moves_in_time, part_passes, second_begins, stands, station_announces}

ended_by : (start time : ℕ) (calls : List Call) → latest start calls ≤ time → HaveEnded time calls
ended_by start time [] by = tt
ended_by start time (Hear port rise width ∷ calls) by = (let more = latest_upto start (Hear port rise width) calls in (omega (arith, by, more.1), ended_by start time calls (omega (arith, by, more.0))))
ended_by start time (Tick now ∷ calls) by = (let more = latest_upto start (Tick now) calls in ended_by start time calls (omega (arith, by, more.0)))

-- what holds at each tick does so at the ticks of the newer calls
over_newer : (IsTrue : ℕ → List LinePulse → Type 0) (f : ℕ) (calls before : List Call) → AreTrueAtTicks IsTrue f (calls ++ before) → AreTrueOver IsTrue f calls before
over_newer IsTrue f [] before truth = tt
over_newer IsTrue f (Hear port rise width ∷ calls) before truth = over_newer IsTrue f calls before truth
over_newer IsTrue f (Tick now ∷ calls) before truth = (truth.0, over_newer IsTrue f calls before truth.1)

nothing_asked : (k : Kind) (symbol : ℕ → ℕ → Symbol) (x : Course) → x.calls ≡ [] → keeps_so_far k symbol x ≡ true
unfolding in_order
nothing_asked k symbol x none = rw none refl

module _ (s : StationSetup) (r : ℕ) (moves : MovesOn (kind_of_device s r)) (slow : (kind_of_device s r).rate ≤ 1001000) where
  abbrev kind : Kind
  kind = kind_of_device s r

  -- the audit of this device is kept, if that of the station is
  abbrev IsKeptSo : StationStanding → Type 0
  IsKeptSo x = x.audit ≡ Kept → keeps_so_far kind (symbols_so_far s x) (x.courses r) ≡ true

  abbrev Stands : StationStanding → Type 0
  Stands x = IsOnCourse s r x.now x

  gone_kept : (q : ℕ) (course : Course) (x : StationStanding) → IsKeptSo x → IsKeptSo (has_gone s q course x)
  gone_kept q course x h kept =
      let seen = seen_kept x.audit q (x.now / 1000000) (keeps_so_far (kind_of_device s q) (symbols_so_far s x) course) kept in
      elim (cases_Bool (r == q)) [
        | inr other ↦ rw other (h seen.0)
        | inl same ↦ rw same (subst (λ (i : ℕ). keeps_so_far (kind_of_device s i) (symbols_so_far s x) course ≡ true) (sym (eqb-true r q same)) seen.1)
      ]

  devices_kept : (stop devices : ℕ) (x : StationStanding) → IsKeptSo x → IsKeptSo (devices_gone s stop devices x)
  devices_kept stop zero x h = h
  devices_kept stop (suc q) x h =
      let before = devices_gone s stop q x in
      gone_kept q (passed (kind_of_device s q) (signal_by before.seconds) stop (before.courses q)) before (devices_kept stop q x h)

  part_kept : (stop : ℕ) (x : StationStanding) → IsKeptSo x → IsKeptSo (part_gone s stop x)
  part_kept stop x h = devices_kept stop (length s.devices) x h

  -- what it heard has ended as a second begins
  has_ended : (x : StationStanding) → Stands x → (time : ℕ) → x.now ≤ time → HaveEnded (count kind time) (x.courses r).calls
  has_ended x on time later =
      let c = course_behind kind (late_of (slice_get s.devices r)) on.doings in
      let by = (on_loop kind moves slow (late_of (slice_get s.devices r)) on.doings).by in
      let here : latest (x.courses r).start (x.courses r).calls ≤ count kind (x.courses r).now = subst (λ (y : Course). latest y.start y.calls ≤ count kind y.now) (sym on.course) by in
      let past = monotone kind.first kind.rate (x.courses r).now time (let now = on.now in omega (arith, now, later)) in
      ended_by (x.courses r).start (count kind time) (x.courses r).calls (omega (arith, here, past))

  begun_kept : (x : StationStanding) → Stands x → IsKeptSo x → IsKeptSo (has_begun_if_due s x)
  begun_kept x on h = elim (cases_Bool (is_at_edge x)) [
    | inr not_yet ↦ rw not_yet h
    | inl due ↦
        let now : x.now ≡ 1000000 * length x.seconds = eqb-true x.now (1000000 * length x.seconds) due in
        let time = counter_at kind.first kind.rate (length x.seconds * 1000000) in
        let ended = has_ended x on (length x.seconds * 1000000) (omega (arith, now)) in
        let same = kept_same kind.first kind.rate time (symbols_so_far s x) (symbol_by s.rules s.times (map (sent_second s.times) x.generators ∷ x.seconds)) (same_before s.rules s.times x.generators x.seconds kind.first kind.rate) kind.made.clock (x.courses r).start (x.courses r).calls ended in
        rw due (λ kept. sym same ∙ h kept)
  ]

  time_kept : (parts us : ℕ) (x : StationStanding) → Stands x → IsKeptSo x → IsKeptSo (time_gone s parts us x).standing
  time_kept zero us x on h = h
  time_kept (suc parts) us x on h = elim (cases_Bool (us == 0)) [
    | inl over ↦ rw over h
    | inr more ↦ elim (cases_Bool (lacks_second s x)) [
      | inl end ↦ rw (more, end) h
      | inr goes ↦
          let begun = has_begun_if_due s x in
          let part = part_us us begun in
          let then = second_begins s r x on in
          rw (more, goes) (time_kept parts (us - part) (part_gone s (begun.now + part) begun) (part_passes s r (begun.now + part) begun (omega arith) then) (part_kept (begun.now + part) begun (begun_kept x on h)))
    ]
  ]

  if_device : (q : ℕ) (x : StationStanding) (rest : StationStep) → IsKeptSo x → IsKeptSo rest.standing → IsKeptSo (unless_device s q x rest).standing
  if_device q x rest h go = elim (cases_Bool (nat_lt q (length s.devices))) [
    | inl there ↦ rw there go
    | inr none ↦ rw none h
  ]

  if_source : (g : ℕ) (x : StationStanding) (rest : StationStep) → IsKeptSo x → IsKeptSo rest.standing → IsKeptSo (unless_source s g x rest).standing
  if_source g x rest h go = elim (cases_Bool (nat_lt g (length s.generators))) [
    | inl there ↦ rw there go
    | inr none ↦ rw none h
  ]

  -- a device goes on with calls of which its audit is kept
  changed_kept : (q : ℕ) (course : Course) (x : StationStanding) → (keeps_so_far (kind_of_device s q) (symbols_so_far s x) (x.courses q) ≡ true → keeps_so_far (kind_of_device s q) (symbols_so_far s x) course ≡ true) → IsKeptSo x → IsKeptSo (at_course q course x)
  changed_kept q course x still h kept = elim (cases_Bool (r == q)) [
    | inr other ↦ rw other (h kept)
    | inl same ↦
        let is = eqb-true r q same in
        rw same (subst (λ (i : ℕ). keeps_so_far (kind_of_device s i) (symbols_so_far s x) course ≡ true) (sym is) (still (subst (λ (i : ℕ). keeps_so_far (kind_of_device s i) (symbols_so_far s x) (x.courses i) ≡ true) is (h kept))))
  ]

  line_kept : (g q : ℕ) (change : Wire → Wire) (x : StationStanding) → IsKeptSo x → IsKeptSo (with_cable_if s g q change x).standing
  line_kept g q change x h = if_device q x _ h (if_source g x _ h (changed_kept q (on_line g change (x.courses q)) x (λ kept. kept) h))

  plays_kept : (e : Event) (x : StationStanding) → Stands x → IsKeptSo x → IsKeptSo (play_event s e x).standing
  plays_kept (Pass us) x on h = time_kept _ us x on h
  plays_kept (Fault g kind) x on h = if_source g x _ h h
  plays_kept (Repair g) x on h = if_source g x _ h h
  plays_kept (Pull g q) x on h = line_kept g q pulled x h
  plays_kept (Plug g q) x on h = line_kept g q plugged x h
  plays_kept (Late g q us) x on h = line_kept g q (made_late (min us most_late_us)) x h
  plays_kept (Pulse g q width) x on h = line_kept g q (added (x.courses q).now width) x h
  plays_kept (TickEvent q) x on h = if_device q x _ h (gone_kept q (ticked (kind_of_device s q) (x.courses q)) x h)
  plays_kept (Restart q) x on h = if_device q x _ h (changed_kept q (begun_anew (kind_of_device s q) (x.courses q)) x (λ kept. nothing_asked (kind_of_device s q) (symbols_so_far s x) (begun_anew (kind_of_device s q) (x.courses q)) refl) h)
  plays_kept (StampEvent q ago) x on h = if_device q x _ h (elim (cases_Bool (nat_lt x.now ago)) [
    | inl early ↦ rw early h
    | inr past ↦ rw past (λ kept. h (seen_kept x.audit q (x.now / 1000000) (may_stamp (kind_of_device s q) (symbols_so_far s x) (x.courses q) (x.now - ago)) kept).0)
  ])

  is_kept_so : (ev : List Event) → IsKeptSo (standing_after s ev)
  is_kept_so [] = λ kept. nothing_asked kind (symbols_so_far s (station_at_start s)) ((station_at_start s).courses r) refl
  is_kept_so (e ∷ ev) = plays_kept e (standing_after s ev) (stands s r ev) (is_kept_so ev)

-- ---- it announces

there_is : (s : StationSetup) (r : ℕ) (o : Option DevicePlan) → slice_get s.devices r ≡ o → IsTickedInTime (kind_if s.rules (redundancy_of_station s) o) → r < length s.devices
there_is s r None at (inl by_wait) = absurd cc
there_is s r None at (inr each) = absurd (let is = each.1 in cc)
there_is s r (Some d) at in_time = slice_get_within s.devices r d at

it_locks : (s : StationSetup) → IsStationSetup s → (r : ℕ) (o : Option DevicePlan) → slice_get s.devices r ≡ o → 1 ≤ (kind_if s.rules (redundancy_of_station s) o).made.clock.reader_rules.lock_after
it_locks s is r None at = omega arith
it_locks s is r (Some d) at =
    let own : IsDevicePlan d = subst IsDevicePlan (get_or_from_slice_get s.devices r d d at) (is.devices r d (slice_get_within s.devices r d at)) in
    own.rules.lock_after.0

pub kept_announces : (s : StationSetup) (ev : List Event) (r m : ℕ) (calls before : List Call) (u : UtcSecond) → IsStationSetup s → audit_of_station s ev ≡ Kept → IsTickedInTime (kind_of_device s r)
    → ((standing_after s ev).courses r).calls ≡ calls ++ before → AreCounted calls → AreWholeInARow s r ((standing_after s ev).courses r).start m calls before
    → FollowsTruth s.times (kind_of_device s r).made.clock.prefers_frames (kind_of_device s r).made.table
    → IsSecond s.times (m + 1 + (kind_of_device s r).made.clock.reader_rules.lock_after) u
    → IsAnnounced s r (m + 1 + (kind_of_device s r).made.clock.reader_rules.lock_after) u (standing_after s ev)
kept_announces s ev r m calls before u is kept in_time are counted whole follows second =
    let k = kind_of_device s r in
    let x = standing_after s ev in
    let c = x.courses r in
    let moves = moves_in_time s is r in_time in
    let less = there_is s r (slice_get s.devices r) refl in_time in
    let true_one = true_kind s is (kept_at_start s ev kept) r less in
    let so = is_kept_so s r moves.0 moves.1 ev kept in
    let own : keeps_so_far k (symbol_by k.made.rules s.times x.seconds) c ≡ true = subst (λ (rules : Rules). keeps_so_far k (symbol_by rules s.times x.seconds) c ≡ true) (sym true_one.rules_are) so in
    let made : Made = made_with k.made no_lines are_new in
    let life = lives s.times (lines_of k.made.rules s.times (frames_by x.seconds) k.first k.rate) made c.start (device s.times (frames_by x.seconds) k.first k.rate k.made.rules k.made.clock k.made.table true_one.setup) c.calls own in
    let IsTrue : ℕ → List LinePulse → Type 0 = IsTrueLately k.made.clock.within.us k.made.rules s.times (edges_by_kind k) in
    station_announces s ev r m calls before u are_new is in_time are counted
    (record {
      is = life.is;
      order = subst (λ (l : List Call). AreInOrder c.start k.made.clock.redundancy l) are life.order;
      truth = over_newer IsTrue (f_of k.made.clock.redundancy) calls before (subst (AreTrueAtTicks IsTrue (f_of k.made.clock.redundancy)) are life.truth);
      some = whole.some;
      locks = it_locks s is r (slice_get s.devices r) refl;
      told = whole.told;
      risen = whole.risen;
      ticked = whole.ticked;
      past = whole.past;
      whole = whole.whole;
      last = whole.last;
    })
    follows second
