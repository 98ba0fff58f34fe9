-- The numbers of each entry of a station's log are below 2^64: its timeline ends, and its counters count
-- hardly more than its time.
use Rattle.std.proofs.Common.{◌≡◌, ◌∙◌, ℕ, zero, suc, ◌+◌, ◌-◌, ◌*◌, ◌/◌, ◌%◌, ◌^◌, ◌<◌, ◌≤◌, ◌==◌, false, List, [], ◌∷◌, length, Option, Some, None, refl, sym, ap, arith, inl, inr, subst}
use Rattle.std.specs.Prelude.{All, is_none, min, nat_lt, slice_get}
use Rattle.std.proofs.Math.Nat.{div-mul-le_self, mul-le-mul_left, mul-le-mul_right}
use Rattle.std.proofs.lemmas.Bool.{cases_Bool, ltb-true}
use Rattle.std.proofs.lemmas.List.Elements.{All-append, All-cons, All-map, All-nil}
use Rattle.std.proofs.lemmas.Option.{get_or_from_slice_get, slice_get_cases}
use Rattle.irig_frame.specs.declared.symbol.Symbol.{Symbol}
use Rattle.irig_sync.specs.Sync.{clock_gap}
use Rattle.irig_time.specs.Timelines.{second_at}
use Rattle.irig_time.proofs.SecondAt.{second_is}
use Rattle.irig_time.proofs.TimeLaws.{few}
use Rattle.irig_lines.proofs.WidthLaws.{reach_few}
use Rattle.irig_timekeeper.specs.declared.clock.Beat.{Beat}
use Rattle.irig_timekeeper.specs.declared.stamp.Announced.{Announced}
use Rattle.irig_timekeeper.specs.declared.stamp.Stamp.{Stamp}
use Rattle.irig_timekeeper.specs.Keeping.{answer_at}
use Rattle.irig_timekeeper.specs.Life.{Call, device_of}
use Rattle.irig_timekeeper.specs.Life.Call.{Tick}
use Rattle.irig_timekeeper.specs.Lived.{keeping_after, made_with}
use Rattle.irig_timekeeper.specs.Since.{since_vote}
use Rattle.irig_timekeeper.specs.Stamps.{first_stamp, next_us, serves, stamp_by, stamp_of}
use Rattle.irig_timekeeper.proofs.BoundLaws.{answer_bound}
use Rattle.irig_timekeeper.proofs.SinceLaws.{has_its_bound, lasts_since}
use Rattle.irig_lines.specs.Steps.{no_lines}
use Rattle.irig_lives.proofs.SetupLaws.{bound_small, setup_is}
use Rattle.irig_wires.specs.declared.wire.Wire.{Wire}
use Rattle.irig_wires.specs.declared.wires.Happening.{Happening}
use Rattle.irig_wires.specs.declared.wires.Happening.TheVariants as happens
use Rattle.irig_wires.specs.Wires.{added, made_late, most_late_us, plugged, pulled}
use Rattle.irig_wires.proofs.OscillatorLaws.{counted_upto, rate_near}
use Rattle.irig_simulated.specs.declared.told_second.ToldSecond.{ToldSecond}
use Rattle.irig_simulated.specs.Kinds.{IsDevicePlan, Kind, count, kind_of}
use Rattle.irig_simulated.specs.Setups.{DevicePlan}
use Rattle.irig_simulated.specs.Courses.{Course, begun_anew, coming, happened, most_in, on_line, passed, played, stamp_said, stepped, ticked, told_count_of, told_if, told_second, told_taken}
use Rattle.irig_simulated.proofs.CourseLaws.{are_new}
use Rattle.irig_station.specs.declared.entry.Entry.TheVariants.{Told, Stamped}
use Rattle.irig_station.specs.declared.event.Event.{Event}
use Rattle.irig_station.specs.declared.event.Event.TheVariants.{Pass, Fault, Repair, Pull, Plug, Late, Pulse, Tick as TickEvent, Restart, Stamp as StampEvent}
use Rattle.irig_station.specs.StationSetups.{IsStationSetup, StationSetup, kind_if, kind_of_device, redundancy_of_station}
use Rattle.irig_station.specs.SentSeconds.{SentSecond, signal_by}
use Rattle.irig_station.specs.StationStandings.{StationStanding, StationStep, at_course, devices_gone, has_begun_if_due, has_gone, has_stamped, is_at_edge, lacks_second, part_gone, part_us, time_gone, with_course}
use Rattle.irig_station.specs.StationPlay.{log_of_station, play_event, standing_after, unless_device, unless_source, with_cable_if}
use Rattle.irig_station.specs.ValidEntries.{AreWordCounters, IsEntryInRange, IsToldInRange}

-- ---- one device

record IsSmallKind (k : Kind) : Type 0 where
  first : k.first < 2 ^ 33
  least : 999000 ≤ k.rate
  most : k.rate ≤ 1001000
  drift : k.made.clock.drift_us ≤ 100
  held : (k.made.clock.reader_rules.holdover + 2) * k.made.clock.drift_us ≤ 490000

record IsByThen (x : Course) : Type 0 where
  now : x.now < 2 ^ 53
  told : All IsToldInRange x.told

module _ (k : Kind) (small : IsSmallKind k) where
  shown_few : (time : ℕ) → time < 2 ^ 53 → count k time < 2 ^ 55
  shown_few time low = (let counted = counted_upto time k.rate small.most in let first = small.first in omega (arith, low, counted, first))

  told_in_range : (shown : ℕ) (beat : Beat) → shown < 2 ^ 55 → beat.bound_us ≤ 492899 → IsToldInRange (told_second k.first k.rate (told_count_of shown beat) beat)
  told_in_range shown beat few bound =
      let at = told_count_of shown beat in
      let over = at + k.rate / 2 - k.first in
      let edges : over / k.rate * k.rate ≤ over = div-mul-le_self over k.rate in
      let some : 1 ≤ k.rate = (let least = small.least in omega (arith, least)) in
      let more : over / k.rate * 1 ≤ over / k.rate * k.rate = mul-le-mul_left (over / k.rate) some in
      let most = small.most in
      let first = small.first in
      let upto : at ≤ shown = omega arith in
      let half : k.rate / 2 ≤ 1001000 = omega (arith, most) in
      let total : over ≤ 2 ^ 55 + 1001000 = omega (arith, upto, few, half) in
      record {
        edge = omega (arith, edges, more, total);
        edge_count = omega (arith, edges, total, first);
        told_count = omega (arith, upto, few);
        bound = omega (arith, bound);
      }

  told_now : (calls : List Call) (time : ℕ) (answer : Option Beat) → time < 2 ^ 53 → answer_at (keeping_after k.made calls) (count k time % 2 ^ 32) ≡ answer → All IsToldInRange (told_if k (count k time) answer)
  told_now calls time None low e = All-nil IsToldInRange
  told_now calls time (Some beat) low e =
      All-cons IsToldInRange (told_second k.first k.rate (told_count_of (count k time) beat) beat) []
      (told_in_range (count k time) beat (shown_few time low) (bound_small (made_with k.made no_lines are_new) (count k time) calls beat small.drift e)) (All-nil IsToldInRange)

  ticked_by : (x : Course) → IsByThen x → IsByThen (ticked k x)
  ticked_by x h = record {
    now = h.now;
    told = All-append IsToldInRange x.told _ h.told (told_now x.calls x.now (answer_at (keeping_after k.made x.calls) (count k x.now % 2 ^ 32)) h.now refl);
  }

  module _ (signal : (line element : ℕ) → Option Symbol) where
    happened_by : (what : Happening) (x : Course) → IsByThen x → IsByThen (happened k signal what x)
    happened_by (happens.End e) x h = record { now = h.now; told = h.told }
    happened_by happens.Tick x h = ticked_by x h
    happened_by happens.Send x h = record { now = h.now; told = h.told }

    played_by : (stop most : ℕ) (x : Course) → stop < 2 ^ 53 → IsByThen x → IsByThen (played k signal stop most x)
    played_by stop zero x low h = h
    played_by stop (suc most) x low h = elim (cases_Bool (nat_lt (coming x).time_us stop)) [
      | inl less ↦ rw less (played_by stop most (stepped k signal x) low
          (happened_by (coming x).what (record x { now = (coming x).time_us }) (record { now = (let early = ltb-true (coming x).time_us stop less in omega (arith, early, low)); told = h.told })))
      | inr done ↦ rw done h
    ]

    passed_by : (stop : ℕ) (x : Course) → stop < 2 ^ 53 → IsByThen x → IsByThen (passed k signal stop x)
    passed_by stop x low h = record { now = low; told = (played_by stop (most_in (stop - x.now)) x low h).told }

  -- ---- a stamp

  offset_of : (o : Option Announced) (next time : ℕ) (stamp : Stamp) → stamp_by o next time ≡ Some stamp → stamp.offset_us < 2 ^ 32
  offset_of None next time stamp e = absurd cc
  offset_of (Some a) next time stamp e = elim (cases_Bool (serves a.bound_us next (clock_gap a.edge_us time))) [
    | inr none ↦ absurd (let h = rw none at e in cc)
    | inl is ↦
        let same : Some (record { second = a.second; offset_us = clock_gap a.edge_us time; bound_us = a.bound_us }) ≡ Some stamp = rw is at e in
        let offset : clock_gap a.edge_us time ≡ stamp.offset_us = ap offset_or same in
        omega (arith, offset)
  ]
    where
      offset_or : Option Stamp → ℕ
      offset_or None = 0
      offset_or (Some s) = s.offset_us

  offset_few : (last before : Option Announced) (time : ℕ) (stamp : Stamp) → stamp_of last before time ≡ Some stamp → stamp.offset_us < 2 ^ 32
  offset_few last before time stamp e = of (stamp_by last 0 time) refl e
    where
      of : (o : Option Stamp) → stamp_by last 0 time ≡ o → first_stamp o (stamp_by before (next_us last before) time) ≡ Some stamp → stamp.offset_us < 2 ^ 32
      of (Some x) here e = offset_of last 0 time stamp (here ∙ e)
      of None here e = offset_of before (next_us last before) time stamp e

  stamp_bound : (x : Course) (time : ℕ) (stamp : Stamp) → stamp_said k x time ≡ Some stamp → stamp.bound_us ≤ 492899
  stamp_bound x time stamp e =
      let made = made_with k.made no_lines are_new in
      let has = has_its_bound made (count k time) x.calls stamp e in
      let lasts = lasts_since made has.earlier has.now has.beat stamp.second has.answer has.says in
      let held = (answer_bound (device_of made) (omega arith) has.earlier (has.now % 2 ^ 32)).few has.beat has.answer in
      let d = k.made.clock.drift_us in
      let grown : since_vote (device_of made) (Tick has.now ∷ has.earlier) * d ≤ (k.made.clock.reader_rules.holdover + 2) * d = mul-le-mul_right d (omega (arith, lasts, held)) in
      let bound = has.bound in
      let drift = small.drift in
      let most = small.held in
      omega (arith, bound, grown, most, drift, reach_few k.made.clock)

  stamp_in_range : (x : Course) (r time : ℕ) (said : Option Stamp) → time < 2 ^ 53 → stamp_said k x time ≡ said → IsEntryInRange (Stamped r time said)
  stamp_in_range x r time None low e = tt
  stamp_in_range x r time (Some stamp) low e = record {
    instant = omega (arith, low);
    offset = (let few = offset_few (keeping_after k.made x.calls).state.last (keeping_after k.made x.calls).state.before (count k time % 2 ^ 32) stamp e in omega (arith, few));
    bound = (let bound = stamp_bound x time stamp e in omega (arith, bound));
  }

-- ---- a station

some_first : {X : Type 0} (o : Option X) → is_none o ≡ false → (x : X) × (o ≡ Some x)
some_first None e = absurd cc
some_first (Some x) e = (x, refl)

module _ (s : StationSetup) (is : IsStationSetup s) (words : AreWordCounters s) where
  small_plan : (d : DevicePlan) → IsDevicePlan d → d.counter < 2 ^ 32 → IsSmallKind (kind_of s.rules (redundancy_of_station s) d)
  small_plan d own word =
      let near = rate_near d.gain_us 1000 own.gain in
      let set = setup_is d.rules d.drift_us 0 own.clock in
      record {
        first = omega (arith, word);
        least = (let low = near.0 in omega (arith, low));
        most = near.1;
        drift = set.0;
        held = set.1 refl;
      }

  small_kind : (r : ℕ) (o : Option DevicePlan) → slice_get s.devices r ≡ o → r < length s.devices → IsSmallKind (kind_if s.rules (redundancy_of_station s) o)
  small_kind r None at less = elim (slice_get_cases s.devices r).1 [
    | inl there ↦ absurd (let none : Some there.0 ≡ None = sym there.2 ∙ at in cc)
    | inr past ↦ absurd (omega (arith, past.0, less))
  ]
  small_kind r (Some d) at less =
      let same = get_or_from_slice_get s.devices r d d at in
      small_plan d (subst IsDevicePlan same (is.devices r d less)) (subst (λ (p : DevicePlan). p.counter < 2 ^ 32) same (words r d less))

  record IsInRange (x : StationStanding) : Type 0 where
    begun : x.now ≤ 1000000 * length x.seconds
    few : length x.seconds ≤ 2 ^ 32
    courses : (r : ℕ) → ((x.courses r).now < 2 ^ 53) × All IsToldInRange (x.courses r).told
    log : All IsEntryInRange x.log

  now_few : (x : StationStanding) → IsInRange x → x.now < 2 ^ 53
  now_few x h = (let by = h.begun in let low = h.few in omega (arith, by, low))

  -- ---- what one device does

  course_in : (r : ℕ) (course : Course) (x : StationStanding) → IsInRange x → course.now < 2 ^ 53 → All IsToldInRange course.told → (q : ℕ) → ((with_course r course x.courses q).now < 2 ^ 53) × All IsToldInRange (with_course r course x.courses q).told
  course_in r course x h now told q = elim (cases_Bool (q == r)) [
    | inl here ↦ rw here (now, told)
    | inr other ↦ rw other (h.courses q)
  ]

  goes_in : (r : ℕ) (course : Course) (x : StationStanding) → IsInRange x → course.now < 2 ^ 53 → All IsToldInRange course.told → IsInRange (has_gone s r course x)
  goes_in r course x h now told = record {
    begun = h.begun;
    few = h.few;
    courses = course_in r (told_taken course) x h now (All-nil IsToldInRange);
    log = All-append IsEntryInRange x.log _ h.log (All-map IsEntryInRange (λ (t : ToldSecond). Told r t) course.told told);
  }

  own_kind : (r : ℕ) → r < length s.devices → IsSmallKind (kind_of_device s r)
  own_kind r less = small_kind r (slice_get s.devices r) refl less

  passes_in : (stop r : ℕ) → stop < 2 ^ 53 → r < length s.devices → (x : StationStanding) → IsInRange x → IsInRange (has_gone s r (passed (kind_of_device s r) (signal_by x.seconds) stop (x.courses r)) x)
  passes_in stop r low less x h =
      let then = passed_by (kind_of_device s r) (own_kind r less) (signal_by x.seconds) stop (x.courses r) low (record { now = (h.courses r).0; told = (h.courses r).1 }) in
      goes_in r (passed (kind_of_device s r) (signal_by x.seconds) stop (x.courses r)) x h then.now then.told

  ticks_in : (r : ℕ) → r < length s.devices → (x : StationStanding) → IsInRange x → IsInRange (has_gone s r (ticked (kind_of_device s r) (x.courses r)) x)
  ticks_in r less x h =
      let then = ticked_by (kind_of_device s r) (own_kind r less) (x.courses r) (record { now = (h.courses r).0; told = (h.courses r).1 }) in
      goes_in r (ticked (kind_of_device s r) (x.courses r)) x h then.now then.told

  stamps_in : (r time : ℕ) → r < length s.devices → time < 2 ^ 53 → (x : StationStanding) → IsInRange x → IsInRange (has_stamped s r time x)
  stamps_in r time less low x h =
      let said = stamp_said (kind_of_device s r) (x.courses r) time in
      record {
        begun = h.begun;
        few = h.few;
        courses = h.courses;
        log =
            All-append IsEntryInRange x.log (Stamped r time said ∷ []) h.log
            (All-cons IsEntryInRange (Stamped r time said) [] (stamp_in_range (kind_of_device s r) (own_kind r less) (x.courses r) r time said low refl) (All-nil IsEntryInRange));
      }

  -- a device is changed by hand
  changes_in : (r : ℕ) (course : Course) (x : StationStanding) → course.now ≡ (x.courses r).now → course.told ≡ (x.courses r).told → IsInRange x → IsInRange (at_course r course x)
  changes_in r course x now told h = record {
    begun = h.begun;
    few = h.few;
    courses = course_in r course x h (let low = (h.courses r).0 in omega (arith, now, low)) (subst (All IsToldInRange) (sym told) (h.courses r).1);
    log = h.log;
  }

  -- ---- time passes

  devices_in : (stop devices : ℕ) → stop < 2 ^ 53 → devices ≤ length s.devices → (x : StationStanding) → IsInRange x → IsInRange (devices_gone s stop devices x)
  devices_in stop zero low few x h = h
  devices_in stop (suc r) low few x h =
      let gone = passes_in stop r low (omega (arith, few)) (devices_gone s stop r x) (devices_in stop r low (omega (arith, few)) x h) in
      record { begun = gone.begun; few = gone.few; courses = gone.courses; log = gone.log }

  -- the same seconds have begun
  same_seconds : (stop devices : ℕ) (x : StationStanding) → (devices_gone s stop devices x).seconds ≡ x.seconds
  same_seconds stop zero x = refl
  same_seconds stop (suc r) x = same_seconds stop r x

  part_in : (stop : ℕ) (x : StationStanding) → stop ≤ 1000000 * length x.seconds → IsInRange x → IsInRange (part_gone s stop x)
  part_in stop x upto h =
      let low : stop < 2 ^ 53 = (let few = h.few in omega (arith, upto, few)) in
      let d = devices_in stop (length s.devices) low (omega arith) x h in
      record {
        begun = (let same = ap (λ (l : List (List SentSecond)). length l) (same_seconds stop (length s.devices) x) in omega (arith, same, upto));
        few = d.few;
        courses = d.courses;
        log = d.log;
      }

  -- where the timeline has a second it has not ended
  begun_in : (x : StationStanding) → lacks_second s x ≡ false → IsInRange x → IsInRange (has_begun_if_due s x)
  begun_in x has h = elim (cases_Bool (is_at_edge x)) [
    | inr not_yet ↦ rw not_yet h
    | inl due ↦
        let there : is_none (second_at s.times (length x.seconds)) ≡ false = rw due at has in
        let u = some_first (second_at s.times (length x.seconds)) there in
        let low = few s.times (length x.seconds) u.0 ((second_is s.times (length x.seconds) u.0).0 u.1) in
        rw due (record {
          begun = (let by = h.begun in omega (arith, by));
          few = omega (arith, low);
          courses = h.courses;
          log = h.log;
        })
  ]

  -- within the second that has begun
  part_upto : (x : StationStanding) (us : ℕ) → IsInRange x → x.now + part_us us x ≤ 1000000 * length x.seconds
  part_upto x us h = (let by = h.begun in omega (arith, by))

  time_in : (parts us : ℕ) (x : StationStanding) → IsInRange x → IsInRange (time_gone s parts us x).standing
  time_in zero us x h = h
  time_in (suc parts) us x h = elim (cases_Bool (us == 0)) [
    | inl over ↦ rw over h
    | inr more ↦ elim (cases_Bool (lacks_second s x)) [
      | inl end ↦ rw (more, end) h
      | inr goes ↦
          let begun = has_begun_if_due s x in
          let part = part_us us begun in
          let on = begun_in x goes h in
          rw (more, goes) (time_in parts (us - part) (part_gone s (begun.now + part) begun) (part_in (begun.now + part) begun (part_upto begun us on) on))
    ]
  ]

  -- ---- events

  if_device : (r : ℕ) (x : StationStanding) (rest : StationStep) → IsInRange x → (r < length s.devices → IsInRange rest.standing) → IsInRange (unless_device s r x rest).standing
  if_device r x rest h go = elim (cases_Bool (nat_lt r (length s.devices))) [
    | inl there ↦ rw there (go (ltb-true r (length s.devices) there))
    | inr none ↦ rw none h
  ]

  if_source : (g : ℕ) (x : StationStanding) (rest : StationStep) → IsInRange x → IsInRange rest.standing → IsInRange (unless_source s g x rest).standing
  if_source g x rest h go = elim (cases_Bool (nat_lt g (length s.generators))) [
    | inl there ↦ rw there go
    | inr none ↦ rw none h
  ]

  line_in : (g r : ℕ) (change : Wire → Wire) (x : StationStanding) → IsInRange x → IsInRange (with_cable_if s g r change x).standing
  line_in g r change x h = if_device r x _ h (λ _. if_source g x _ h (changes_in r (on_line g change (x.courses r)) x refl refl h))

  plays_in : (e : Event) (x : StationStanding) → IsInRange x → IsInRange (play_event s e x).standing
  plays_in (Pass us) x h = time_in _ us x h
  plays_in (Fault g kind) x h = if_source g x _ h (record { begun = h.begun; few = h.few; courses = h.courses; log = h.log })
  plays_in (Repair g) x h = if_source g x _ h (record { begun = h.begun; few = h.few; courses = h.courses; log = h.log })
  plays_in (Pull g r) x h = line_in g r pulled x h
  plays_in (Plug g r) x h = line_in g r plugged x h
  plays_in (Late g r us) x h = line_in g r (made_late (min us most_late_us)) x h
  plays_in (Pulse g r width) x h = line_in g r (added (x.courses r).now width) x h
  plays_in (TickEvent r) x h = if_device r x _ h (λ less. ticks_in r less x h)
  plays_in (Restart r) x h = if_device r x _ h (λ _. changes_in r (begun_anew (kind_of_device s r) (x.courses r)) x refl refl h)
  plays_in (StampEvent r ago) x h = if_device r x _ h (λ less. elim (cases_Bool (nat_lt x.now ago)) [
    | inl early ↦ rw early h
    | inr past ↦ rw past (stamps_in r (x.now - ago) less (let low = now_few x h in omega (arith, low)) x h)
  ])

  stands_in : (ev : List Event) → IsInRange (standing_after s ev)
  stands_in [] = record { begun = omega arith; few = omega arith; courses = λ r. (omega arith, All-nil IsToldInRange); log = All-nil IsEntryInRange }
  stands_in (e ∷ ev) = plays_in e (standing_after s ev) (stands_in ev)

  pub log_in_range : (ev : List Event) → All IsEntryInRange (log_of_station s ev)
  log_in_range ev = (stands_in ev).log
